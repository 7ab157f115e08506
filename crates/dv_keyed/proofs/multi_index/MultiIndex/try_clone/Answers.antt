use Rattle.std.proofs.Common.{◌∙◌, ap, sym}
use Rattle.dv_keyed.specs.Inner.Keys.{has_key}
use Rattle.dv_keyed.specs.Inner.Pairs.{has_pair}
use Rattle.dv_keyed.proofs.Noted.{noted-still}
use Rattle.dv_keyed.proofs.multi_index.MultiIndex.try_clone.Goals as goal

pub invariant_of-result : goal.invariant_of-result
invariant_of-result c =
    noted-still c.self.inside.several c.in_ok-try_clone-2.field-0 c.self.inside.pairs c.in_ok-try_clone.field-0 c.self.invariant (λ i out. sym (ap (has_key i) c.in_ok-try_clone-2.ensures) ∙ out) (λ k i there. sym (ap (has_pair k i) c.in_ok-try_clone.ensures) ∙ there)
