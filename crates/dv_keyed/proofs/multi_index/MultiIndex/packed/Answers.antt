use Rattle.std.proofs.Common.{◌∙◌, sym}
use Rattle.dv_keyed.proofs.Noted.{noted-still}
use Rattle.dv_keyed.proofs.multi_index.MultiIndex.packed.Goals as goal

pub invariant_of-result : goal.invariant_of-result
invariant_of-result c =
    noted-still c.self.inside.several c.self.inside.several c.self.inside.pairs c.in_ok-packed.field-0 c.self.invariant (λ i out. out) (λ k i there. sym (c.in_ok-packed.ensures k i) ∙ there)
