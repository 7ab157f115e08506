use Rattle.std.proofs.Common.{drop}
use Rattle.dv_catalog.specs.Inner.CatalogParts.{rows_kept}
use Rattle.dv_catalog.proofs.Sourced.{AreListed}
use Rattle.dv_catalog.proofs.sources.rows_under.Given as goal

-- the lists of the names so far
abbrev pub invariant-names : goal.invariant-names
invariant-names l = AreListed l.names (λ name. rows_kept name l.collections l.registry) l.sources (drop l.name-index l.names)
