use Rattle.std.proofs.Common.{◌≡◌, ◌≤◌, List, length}
use Rattle.std.specs.List.{flat_map}
use Rattle.dv_pipe.specs.Inner.Parts.{passed}
use Rattle.dv_pipe.specs.Sources.{Row, lists_of}
use Rattle.dv_pipe.specs.Stages.{through}
use Rattle.dv_pipe.proofs.run.Run.of.Given as goal

abbrev pub invariant-stages : goal.invariant-stages
invariant-stages l = ((rows : List Row) → through l.stages l.source (lists_of l.sources) (flat_map (passed l.steps.items) rows) ≡ through l.fn.stages l.source (lists_of l.sources) rows) × (length l.stages ≤ length l.fn.stages)

abbrev pub decreases-stages : goal.decreases-stages
decreases-stages l = length l.stages
