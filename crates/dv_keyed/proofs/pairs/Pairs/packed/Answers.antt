use Rattle.std.proofs.Common.{◌∙◌, ap}
use Rattle.dv_keyed.specs.Inner.Pairs.{has_pair}
use Rattle.dv_keyed.proofs.Packed.{same_pairs}
use Rattle.dv_keyed.proofs.pairs.Pairs.packed.Goals as goal

pub returns : goal.returns
returns c = λ k i.
    same_pairs c.in_ok-built_anew.field-0 c.self.inside.entries.entries c.self.invariant c.in_ok-built_anew.ensures k i ∙ ap (has_pair k i) c.self.view_is
