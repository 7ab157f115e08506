use Rattle.dv_core.specs.State.{standing}
use Rattle.dv_core.proofs.Bare.{bare}
use Rattle.dv_core.proofs.Parts.{delete_leaves}
use Rattle.dv_core.proofs.laws.a_delete_leaves_a_part.Goals as goal

pub returns : goal.returns
returns c asked deletes old new session command outcome asks steps = delete_leaves old (standing old.marks new) session command asked outcome asks deletes (bare old new session command outcome steps)
