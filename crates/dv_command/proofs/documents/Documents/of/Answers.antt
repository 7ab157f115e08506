use Rattle.std.proofs.Common.{sym, ◌∙◌}
use Rattle.dv_command.proofs.Among.{all_documents, documents_all, documents_not_all}
use Rattle.dv_command.proofs.documents.Documents.of.Goals as goal

pub invariant_of-result : goal.invariant_of-result
invariant_of-result c = all_documents c.as_slice-values.result.now (sym c.are_documents.ensures ∙ c.if-are_documents.true)

pub returns-then-are_documents : goal.returns-then-are_documents
returns-then-are_documents c =
    let values = c.as_slice-values.result.now in
    rw (← c.as_slice-values.ensures) (documents_all values (all_documents values (sym c.are_documents.ensures ∙ c.if-are_documents.true)))

pub returns-else-are_documents : goal.returns-else-are_documents
returns-else-are_documents c =
    rw (← c.as_slice-values.ensures) (documents_not_all c.as_slice-values.result.now (sym c.are_documents.ensures ∙ c.if-are_documents.false))
