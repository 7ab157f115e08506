use Rattle.std.proofs.Common.{◌≡◌, take}
use Rattle.std.specs.List.{flat_map}
use Rattle.dv_sort.specs.Sorting.{front}
use Rattle.dv_pipe.specs.Inner.Parts.{passed}
use Rattle.dv_pipe.specs.Sources.{rows_referred}
use Rattle.dv_pipe.proofs.run.each.Given as goal

abbrev pub invariant-documents : goal.invariant-documents
invariant-documents l = front l.most l.rows.items ≡ front l.most (flat_map (passed l.steps) (rows_referred (take l.document-index l.documents)))
