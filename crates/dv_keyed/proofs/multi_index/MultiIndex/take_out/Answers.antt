use Rattle.std.proofs.Common.{◌∙◌, ◌&&◌, not, sym}
use Rattle.std.specs.Ordering.{is_eq}
use Rattle.dv_order.specs.Key.{key_order}
use Rattle.dv_keyed.specs.Inner.Keys.{has_key}
use Rattle.dv_keyed.specs.Inner.Pairs.{has_pair}
use Rattle.dv_keyed.proofs.Noted.{less-kept, noted-still}
use Rattle.dv_keyed.proofs.multi_index.MultiIndex.take_out.Goals as goal

pub invariant_of-self : goal.invariant_of-self
invariant_of-self c =
    noted-still c.self.inside.several c.self.inside.several c.self.inside.pairs c.take_out.new.self c.self.invariant (λ i out. out) (λ k i there. less-kept (has_pair k i c.self.inside.pairs) (not (has_key k c.args.keys.now && is_eq (key_order i c.args.id.now))) (sym (c.take_out.ensures k i) ∙ there))
