use Rattle.std.proofs.Common.{◌≡◌, drop}
use Rattle.dv_catalog.specs.Inner.CatalogParts.{is_one_stale}
use Rattle.dv_catalog.proofs.refresh.is_one_stale.Given as goal

-- a view of a name that is left is stale exactly if a view of any of the names is
abbrev pub invariant-names : goal.invariant-names
invariant-names l = is_one_stale (drop l.name-index l.names) l.registry ≡ is_one_stale l.names l.registry
