use Rattle.dv_update.proofs.RemovalsLast.{removals_first}
use Rattle.dv_update.proofs.laws.removals_may_come_first.Goals as goal

pub returns : goal.returns
returns c = let law = c.paths_that_part_are_independent.ensures in removals_first law.slot law.put
