-- The views have taken in the removals of the documents so far.
use Rattle.dv_views.proofs.Losing.{HaveGone}
use Rattle.dv_views.proofs.told_registry.ToldRegistry.apply_gone.Given as goal

abbrev pub invariant-documents : goal.invariant-documents
invariant-documents l = HaveGone l.namespace l.fn.documents l.document-iterator l.fn.self l.self
