use Rattle.std.proofs.Common.{◌≡◌, length}
use Rattle.dv_pipe.specs.Sources.{lists_of, rows_referred}
use Rattle.dv_pipe.specs.Stages.{through}
use Rattle.dv_pipe.proofs.evaluation.rows_through.Given as goal

abbrev pub invariant-runs : goal.invariant-runs
invariant-runs l = through l.run.later.now l.source (lists_of l.sources) l.left.items ≡ through l.stages l.source (lists_of l.sources) (rows_referred l.fn.rows)

abbrev pub decreases-runs : goal.decreases-runs
decreases-runs l = length l.run.later.now
