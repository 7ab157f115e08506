use Rattle.std.proofs.Common.{length}
use Rattle.dv_catalog.proofs.behind.+behind.Given as goal

abbrev pub decreases-rows_behind : goal.decreases-rows_behind
decreases-rows_behind l = length l.stages.now
