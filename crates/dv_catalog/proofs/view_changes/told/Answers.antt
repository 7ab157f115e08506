use Rattle.std.proofs.Common.{List, inl, inr, map, subst, sym, ◌∙◌}
use Rattle.dv_change.specs.declared.taking.Taken as taking
use Rattle.dv_catalog.specs.Changes.{gone}
use Rattle.dv_catalog.specs.Inner.EffectView.{AreUpdatesOf, ArePlaced, after_of, changes_seen, update_changes}
use Rattle.dv_catalog.specs.Inner.Told.{AreToldSo, gones_told}
use Rattle.dv_catalog.specs.State.{documents_of}
use Rattle.dv_catalog.proofs.Keeping.{all_begin}
use Rattle.dv_catalog.proofs.ToldChanges.{all_identified}
use Rattle.dv_catalog.proofs.ToldViews.{OldLaws, gones_so, same_documents, updates_so}
use Rattle.dv_catalog.proofs.view_changes.told.Goals as goal
use Rattle.dv_views.specs.Inner.ResultLaws.{ok_then}

pub returns-then-not-is_read : goal.returns-then-not-is_read
returns-then-not-is_read c = inr (c.new.ensures.items, sym c.is_read.ensures ∙ c.if-not-is_read.true)

pub all_put-requires-clause-identified : goal.all_put-requires-clause-identified
all_put-requires-clause-identified c =
    let begin = all_begin (documents_of c.args.namespace.now c.args.collections.now) (changes_seen c.args.changes.now) c.requires.placed in
    all_identified (map (after_of c.in-Put.updates.name) c.in-Put.updates.each.items) (rw c.in-Put.is at begin)

pub all_put-requires-clause-whole : goal.all_put-requires-clause-whole
all_put-requires-clause-whole c =
    let are : AreUpdatesOf (documents_of c.args.namespace.now c.args.collections.now) c.in-Put.updates.name c.in-Put.updates.each.items = rw c.in-Put.is at c.requires.standing in
    are.whole

pub returns-in-Put : goal.returns-in-Put
returns-in-Put c =
    let documents = documents_of c.args.namespace.now c.args.collections.now in
    let updates = c.in-Put.updates in
    let laws : OldLaws = record {
      finds = c.documents_stand_at_their_ids.ensures.found;
      behind = c.documents_stand_at_their_ids.ensures.changed;
      made = c.told_changes_are_made.ensures;
      keeps = c.changes_keep_the_order.ensures;
      others = c.documents_stand_where_they_are_found.ensures.others;
      without = c.removed_document_is_not_found.ensures;
    } in
    let placed : ArePlaced documents (update_changes updates.name updates.each.items) = rw c.in-Put.is at c.requires.placed in
    let are : AreUpdatesOf documents updates.name updates.each.items = rw c.in-Put.is at c.requires.standing in
    rw c.in-Put.is
    (ok_then c.all_put.result c.all_put.ensures (λ all is.
    inl (subst (λ (ts : List taking.Taken). AreToldSo documents (update_changes updates.name updates.each.items) ts) (sym is) (updates_so laws documents updates.name updates.each.items c.law_ordered.ensures placed are))))

pub returns-in-Gone : goal.returns-in-Gone
returns-in-Gone c =
    let documents = documents_of c.args.namespace.now c.args.collections.now in
    let keys = c.in-Gone.keys.items in
    let laws : OldLaws = record {
      finds = c.documents_stand_at_their_ids.ensures.found;
      behind = c.documents_stand_at_their_ids.ensures.changed;
      made = c.told_changes_are_made.ensures;
      keeps = c.changes_keep_the_order.ensures;
      others = c.documents_stand_where_they_are_found.ensures.others;
      without = c.removed_document_is_not_found.ensures;
    } in
    let placed : ArePlaced documents (map gone keys) = rw c.in-Gone.is at c.requires.placed in
    let there = same_documents (λ k. k.now) c.args.collections.now c.args.namespace.now c.get.result c.get.ensures in
    rw c.in-Gone.is
    (ok_then c.all_gone.result c.all_gone.ensures (λ all is.
    inl (subst (λ (ts : List taking.Taken). AreToldSo documents (map gone keys) ts) (sym (is ∙ (λ i. gones_told (there i) (c.deref.ensures.value i)))) (gones_so laws documents keys c.law_ordered.ensures placed))))
