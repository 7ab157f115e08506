use Rattle.std.proofs.Common.{◌++◌, ◌∷◌, [], List, inl, inr, refl, sym, subst, ◌∙◌}
use Rattle.dv_change.specs.declared.taking.Taken as taking
use Rattle.dv_catalog.specs.Changes.{put}
use Rattle.dv_catalog.specs.Inner.Told.{AreToldSo}
use Rattle.dv_catalog.proofs.ToldViews.{one_so}
use Rattle.dv_catalog.proofs.view_changes.one_told.Goals as goal

pub returns-then-not-is_read : goal.returns-then-not-is_read
returns-then-not-is_read c = λ documents none. inr (c.new.ensures.items, sym c.is_read.ensures ∙ c.if-not-is_read.true)

pub returns : goal.returns
returns c = λ documents none.
    inl (subst (λ (ts : List taking.Taken). AreToldSo documents (put c.args.document.now ∷ []) ts) (sym (c.in_ok-push.ensures.items ∙ (λ i. c.in_ok-all.ensures.items i ++ c.in_ok-document_put.ensures i ∷ [])))
    (one_so c.documents_stand_at_their_ids.ensures.found c.args.document.now documents none))
