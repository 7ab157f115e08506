-- What was put so far, and the documents that are left, are all.
use Rattle.std.proofs.Common.{◌≡◌, drop}
use Rattle.std.specs.List.{AllByRecursion}
use Rattle.dv_change.specs.Changes.{with_changes}
use Rattle.dv_coll.specs.Collection.{HasId}
use Rattle.dv_pipe.specs.Sources.{rows_referred}
use Rattle.dv_views.specs.Inner.Filled.{puts_of}
use Rattle.dv_views.specs.Placed.{positioned}
use Rattle.dv_views.proofs.copies.copy_of.Given as goal

abbrev pub invariant-documents : goal.invariant-documents
invariant-documents l = record {
  identified : AllByRecursion HasId (rows_referred (drop l.document-index l.documents));
  copied : with_changes l.copy.entries (puts_of (positioned (rows_referred (drop l.document-index l.documents)))) ≡ positioned (rows_referred l.documents);
}
