use Rattle.dv_update.proofs.RemovalsLast.{removals_last}
use Rattle.dv_update.proofs.laws.removals_may_come_last.Goals as goal

pub returns : goal.returns
returns c = let law = c.paths_that_part_are_independent.ensures in removals_last law.slot law.put
