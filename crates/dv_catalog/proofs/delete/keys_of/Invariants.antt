use Rattle.std.proofs.Common.{◌≡◌, ◌++◌, drop, map}
use Rattle.std.specs.List.{AllByRecursion}
use Rattle.dv_coll.specs.Collection.{HasId, id_key}
use Rattle.dv_pipe.specs.Sources.{rows_referred}
use Rattle.dv_catalog.proofs.delete.keys_of.Given as goal

-- the keys so far and those that are left
abbrev pub invariant-documents : goal.invariant-documents
invariant-documents l = record {
  keys : l.keys.items ++ map id_key (rows_referred (drop l.document-index l.documents)) ≡ map id_key (rows_referred l.fn.documents);
  identified : AllByRecursion HasId (rows_referred (drop l.document-index l.documents));
}
