use Rattle.std.proofs.Common.{drop}
use Rattle.dv_catalog.specs.State.{lists_of}
use Rattle.dv_catalog.proofs.Sourced.{AreInOrder, AreListed}
use Rattle.dv_catalog.proofs.sources.documents_under.Given as goal

-- the lists of the names so far
abbrev pub invariant-names : goal.invariant-names
invariant-names l = record {
  listed : AreListed l.names (lists_of l.collections) l.sources (drop l.name-index l.names);
  ordered : AreInOrder l.sources;
}
