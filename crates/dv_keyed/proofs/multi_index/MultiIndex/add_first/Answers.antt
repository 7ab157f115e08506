use Rattle.std.proofs.Common.{◌∙◌, ap, arith, ltb-false, nat_lt, sym}
use Rattle.dv_keyed.specs.Inner.Pairs.{has_pair}
use Rattle.dv_keyed.proofs.Noted.{noted-either, noted-still}
use Rattle.dv_keyed.proofs.multi_index.MultiIndex.add_first.Goals as goal

pub invariant_of-self : goal.invariant_of-self
invariant_of-self c = noted-still c.self.inside.several c.note.new.several c.self.inside.pairs c.self.inside.pairs c.self.invariant (λ i out. sym (c.in_err-note.ensures.err i) ∙ out) (λ k i there. there)

pub invariant_of-self-2 : goal.invariant_of-self-2
invariant_of-self-2 c =
    noted-either c.add.result c.self.inside.several c.note.new.several c.args.keys.now c.self.inside.pairs c.add.new.self c.args.id.now (nat_lt 1 c.len.result) c.self.invariant c.in_ok-note.ensures.ok c.add.ensures.ok c.add.ensures.err (λ no. (omega (arith, ltb-false 1 c.len.result no, c.len.ensures), λ k. ap (has_pair k c.args.id.now) c.self.view_is ∙ c.requires k))
