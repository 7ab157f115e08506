use Rattle.std.proofs.Common.{length}
use Rattle.dv_load.proofs.Loads.{LoadsSoFar}
use Rattle.dv_load.proofs.load.load_documents.Given as goal

abbrev pub invariant-documents : goal.invariant-documents
invariant-documents g l = LoadsSoFar l.bytes l.namespace l.fn.store l.number l.rest l.store

abbrev pub decreases-documents : goal.decreases-documents
decreases-documents g l = length l.rest
