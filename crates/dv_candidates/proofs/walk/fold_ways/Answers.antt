use Rattle.dv_candidates.proofs.Folds.{Folded-same}
use Rattle.dv_candidates.proofs.Walks.{first-before, reaches-whole, whole-reaches}
use Rattle.dv_candidates.proofs.walk.fold_ways.Goals as goal

pub fold_document-requires-clause-before : goal.fold_document-requires-clause-before
fold_document-requires-clause-before g c = first-before c.components.result.now (rw c.components.ensures.components c.components.ensures.some)

pub returns : goal.returns
returns g c = Folded-same c.fold_document.result (rw c.components.ensures.components at c.fold_document.ensures) (reaches-whole c.args.path.now c.args.document.now) (whole-reaches c.args.path.now c.args.document.now)
