use Rattle.std.proofs.Common.{length}
use Rattle.dv_message.proofs.Walked.{Passes}
use Rattle.dv_message.proofs.framed.Framed.of.Given as goal

abbrev pub invariant-documents : goal.invariant-documents
invariant-documents l = Passes l.bytes l.rest

abbrev pub decreases-documents : goal.decreases-documents
decreases-documents l = length l.rest
