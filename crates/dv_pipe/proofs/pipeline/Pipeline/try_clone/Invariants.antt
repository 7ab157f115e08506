use Rattle.std.proofs.Common.{◌≡◌, take}
use Rattle.dv_pipe.proofs.pipeline.Pipeline.try_clone.Given as goal

abbrev pub invariant-loop-stage : goal.invariant-loop-stage
invariant-loop-stage l = l.stages.items ≡ take l.stage-index l.stage-items
