use Rattle.std.proofs.Common.{◌≡◌, take}
use Rattle.dv_sort.specs.Front.{front_of}
use Rattle.dv_pipe.specs.Sources.{rows_referred}
use Rattle.dv_pipe.proofs.run.sorted.Given as goal

abbrev pub invariant-documents : goal.invariant-documents
invariant-documents l = l.sorter ≡ front_of l.spec l.fn.most (rows_referred (take l.document-index l.documents))
