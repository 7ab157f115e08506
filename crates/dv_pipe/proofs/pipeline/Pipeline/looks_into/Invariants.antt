use Rattle.std.proofs.Common.{◌≡◌, false, take}
use Rattle.std.specs.List.{list_any}
use Rattle.dv_pipe.specs.Stages.{is_source_named, looked_into}
use Rattle.dv_pipe.proofs.pipeline.Pipeline.looks_into.Given as goal

abbrev pub invariant-stages : goal.invariant-stages
invariant-stages l = list_any (λ s. is_source_named l.namespace (looked_into s l.source)) (take l.stage-index l.stage-items) ≡ false
