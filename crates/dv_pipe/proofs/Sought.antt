-- The documents of a namespace, sought source by source.
use Rattle.std.proofs.Common.{List, map}
use Rattle.dv_pipe.specs.declared.sources.NamedList as memory
use Rattle.dv_pipe.specs.Sources.{Source, rows_referred}

-- what sources in memory stand for
abbrev pub sources_of : List memory.NamedList → List Source
sources_of = map (λ s. (s.namespace, rows_referred s.documents.items))
