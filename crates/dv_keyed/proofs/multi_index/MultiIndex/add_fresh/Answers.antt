use Rattle.std.proofs.Common.{Bor, ◌∙◌, ap, arith, map, sym}
use Rattle.dv_order.specs.Key.{KeyTree}
use Rattle.dv_keyed.specs.Inner.Pairs.{has_pair}
use Rattle.dv_keyed.specs.Inner.ListLaws.{length-lent}
use Rattle.dv_keyed.proofs.Noted.{noted-either, noted-still, none-held}
use Rattle.dv_keyed.proofs.multi_index.MultiIndex.add_fresh.Goals as goal

pub invariant_of-self : goal.invariant_of-self
invariant_of-self c = noted-still c.self.inside.several c.note.new.several c.self.inside.pairs c.self.inside.pairs c.self.invariant (λ i out. sym (c.in_err-note.ensures.err i) ∙ out) (λ k i there. there)

pub invariant_of-self-in-Ok : goal.invariant_of-self-in-Ok
invariant_of-self-in-Ok c =
    let fresh = map (λ (x : Bor KeyTree). x.now) c.args.fresh.now in
    noted-either c.add_fresh.result c.self.inside.several c.note.new.several fresh c.self.inside.pairs c.add_fresh.new.self c.args.id.now c.are_several.result c.self.invariant c.in_ok-note.ensures.ok c.add_fresh.ensures.ok c.add_fresh.ensures.err
    (λ no. (omega (arith, length-lent c.args.fresh.now, c.are_several.ensures.one no), λ k. none-held k c.args.held.now (has_pair k c.args.id.now c.self.inside.pairs) (c.are_several.ensures.none_held no) (λ there. c.requires.held k (sym (ap (has_pair k c.args.id.now) c.self.view_is) ∙ there))))

pub invariant_of-self-in-Err : goal.invariant_of-self-in-Err
invariant_of-self-in-Err c =
    let fresh = map (λ (x : Bor KeyTree). x.now) c.args.fresh.now in
    noted-either c.add_fresh.result c.self.inside.several c.note.new.several fresh c.self.inside.pairs c.add_fresh.new.self c.args.id.now c.are_several.result c.self.invariant c.in_ok-note.ensures.ok c.add_fresh.ensures.ok c.add_fresh.ensures.err
    (λ no. (omega (arith, length-lent c.args.fresh.now, c.are_several.ensures.one no), λ k. none-held k c.args.held.now (has_pair k c.args.id.now c.self.inside.pairs) (c.are_several.ensures.none_held no) (λ there. c.requires.held k (sym (ap (has_pair k c.args.id.now) c.self.view_is) ∙ there))))
