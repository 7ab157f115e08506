use Rattle.std.proofs.Common.{Bor, ◌∙◌, ◌&&◌, ap, map, not, sym}
use Rattle.std.specs.Ordering.{is_eq}
use Rattle.std.proofs.lemmas.Cmp.{tied_itself}
use Rattle.std.proofs.Math.Bool.{and-true}
use Rattle.dv_order.specs.Key.{KeyTree, key_order}
use Rattle.dv_order.specs.Inner.KeyLaws.{key_order_total}
use Rattle.dv_keyed.specs.Inner.Keys.{has_key}
use Rattle.dv_keyed.specs.Inner.Pairs.{has_pair}
use Rattle.dv_keyed.proofs.Noted.{less-kept, noted-still}
use Rattle.dv_keyed.proofs.multi_index.MultiIndex.take_out_each.Goals as goal

pub invariant_of-self : goal.invariant_of-self
invariant_of-self c =
    noted-still c.self.inside.several c.self.inside.several c.self.inside.pairs c.take_out_each.new.self c.self.invariant (λ i out. out) (λ k i there. less-kept (has_pair k i c.self.inside.pairs) (not (has_key k (map (λ (x : Bor KeyTree). x.now) c.args.keys.now) && is_eq (key_order i c.args.id.now))) (sym (c.take_out_each.ensures k i) ∙ there))

pub settle-requires : goal.settle-requires
settle-requires c = λ k there.
    let id = c.args.id.now in
    let gone = has_key k (map (λ (x : Bor KeyTree). x.now) c.args.keys.now) in
    c.requires k
    ((λ j. has_pair k id (sym c.self.view_is j) && not (sym (and-true gone) j))
    ∙ ap (λ b. has_pair k id c.self.inside.pairs && not (gone && b)) (sym (ap is_eq (tied_itself key_order_total id)))
    ∙ sym (c.take_out_each.ensures k id)
    ∙ there)
