use Rattle.std.proofs.Common.{◌≡◌, drop}
use Rattle.dv_pipe.specs.Sources.{rows_under}
use Rattle.dv_pipe.proofs.Sought.{sources_of}
use Rattle.dv_pipe.proofs.sources.Sources.get.Given as goal

abbrev pub invariant-sources : goal.invariant-sources
invariant-sources l = rows_under l.namespace (sources_of (drop l.source-index l.source-items)) ≡ rows_under l.namespace (sources_of l.source-items)
