use Rattle.std.proofs.Common.{subst₂, sym}
use Rattle.dv_match.specs.Inner.Choices.{AreChoicesInOrder}
use Rattle.dv_match.proofs.choices.Choices.ascending.Goals as goal

pub returns : goal.returns
returns c = subst₂ AreChoicesInOrder c.self.view_is (sym c.as_slice.ensures.value) c.self.invariant
