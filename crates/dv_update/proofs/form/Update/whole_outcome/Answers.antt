use Rattle.dv_update.proofs.OneField.{is_itself, stays_applied}
use Rattle.dv_update.proofs.form.Update.whole_outcome.Goals as goal

pub returns-then-same_documents-clause-applied : goal.returns-then-same_documents-clause-applied
returns-then-same_documents-clause-applied c = stays_applied c.args.document.now c.in_ok-after.after _ c.in_ok-after.ensures c.if-same_documents.ensures

pub returns-then-same_documents-clause-same : goal.returns-then-same_documents-clause-same
returns-then-same_documents-clause-same c = is_itself c.args.document.now
