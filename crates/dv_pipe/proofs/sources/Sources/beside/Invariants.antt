use Rattle.std.proofs.Common.{◌≡◌, drop}
use Rattle.dv_pipe.specs.Sources.{rows_under}
use Rattle.dv_pipe.specs.Stages.{beside}
use Rattle.dv_pipe.proofs.Sought.{sources_of}
use Rattle.dv_pipe.proofs.sources.Sources.beside.Given as goal

abbrev pub invariant-sources : goal.invariant-sources
invariant-sources l = rows_under (beside l.source l.collection) (sources_of (drop l.other-index l.other-items)) ≡ rows_under (beside l.source l.collection) (sources_of l.other-items)
