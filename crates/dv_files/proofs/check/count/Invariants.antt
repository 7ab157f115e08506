use Rattle.std.proofs.Common.{length}
use Rattle.dv_files.proofs.Files.{Counts}
use Rattle.dv_files.proofs.check.count.Given as goal

abbrev pub invariant-documents : goal.invariant-documents
invariant-documents l = Counts l.bytes l.count l.rest

abbrev pub decreases-documents : goal.decreases-documents
decreases-documents l = length l.rest
