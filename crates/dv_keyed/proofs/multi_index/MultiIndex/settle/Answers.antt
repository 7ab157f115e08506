use Rattle.std.proofs.Common.{◌∙◌, ap, arith, sym}
use Rattle.dv_keyed.specs.Inner.Pairs.{has_pair}
use Rattle.dv_keyed.proofs.Noted.{settled}
use Rattle.dv_keyed.proofs.multi_index.MultiIndex.settle.Goals as goal

pub invariant_of-self : goal.invariant_of-self
invariant_of-self c =
    settled c.self.inside.several c.take_out.new.self c.args.left.now c.self.inside.pairs c.args.id.now c.self.invariant c.take_out.ensures (omega (arith, c.if-len-le1.true, c.len.ensures)) (λ k there. c.requires k (sym (ap (has_pair k c.args.id.now) c.self.view_is) ∙ there))
