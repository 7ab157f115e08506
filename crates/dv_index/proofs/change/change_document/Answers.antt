use Rattle.std.proofs.Common.{◌∙◌, ap, sym, subst}
use Rattle.dv_coll.specs.Collection.{found}
use Rattle.dv_index.specs.Inner.Change.{IsFresh, documents_after}
use Rattle.dv_index.specs.declared.change.Change.{Change}
use Rattle.dv_index.proofs.Changed.{found-after}
use Rattle.dv_index.proofs.change.change_document.Goals as goal

pub returns-in-Replace-clause-found : goal.returns-in-Replace-clause-found
returns-in-Replace-clause-found c = λ i.
    ap (found i) (c.replace.ensures.documents ∙ sym (ap (λ (x : Change). documents_after x c.args.documents.now) c.in-Replace.is))
    ∙ found-after c.inserted_document_is_found.ensures c.removed_document_is_not_found.ensures c.replaced_document_is_found.ensures c.args.change c.args.documents.now c.requires (subst (λ (x : Change). IsFresh x c.args.documents.now) (sym c.in-Replace.is) tt) i

pub returns-in-Remove-clause-found : goal.returns-in-Remove-clause-found
returns-in-Remove-clause-found c = λ i.
    ap (found i) (c.remove.ensures.documents ∙ sym (ap (λ (x : Change). documents_after x c.args.documents.now) c.in-Remove.is))
    ∙ found-after c.inserted_document_is_found.ensures c.removed_document_is_not_found.ensures c.replaced_document_is_found.ensures c.args.change c.args.documents.now c.requires (subst (λ (x : Change). IsFresh x c.args.documents.now) (sym c.in-Remove.is) tt) i
