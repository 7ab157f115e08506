use Rattle.std.proofs.Common.{sym, subst, ◌∙◌, ap, length, List}
use Rattle.dv_value.specs.Tree.{Field}
use Rattle.dv_command.specs.Inner.DocumentsView.{source_seen, IsOfDocuments}
use Rattle.dv_command.specs.declared.documents.DocumentPlace.{DocumentPlace}
use Rattle.dv_command.specs.declared.documents.DocumentPlace.TheVariants.{Array}
use Rattle.dv_command.proofs.Among.{length_documents}
use Rattle.dv_command.proofs.documents.Documents.len.Goals as goal

pub returns-in-Array : goal.returns-in-Array
returns-in-Array c =
    let documents : IsOfDocuments (Array c.in-Array.values) = subst IsOfDocuments c.in-Array.is c.self.invariant in
    sym (length_documents c.in-Array.values.now documents)
    ∙ ap (λ (s : DocumentPlace). length (source_seen s)) (sym c.in-Array.is)
    ∙ ap (λ (ds : List (List Field)). length ds) c.self.view_is
