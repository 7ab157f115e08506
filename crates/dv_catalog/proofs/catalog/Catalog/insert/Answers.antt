use Rattle.std.proofs.Common.{◌≡◌, List, [], ◌∷◌, Err, ap, refl, ◌∙◌}
use Rattle.dv_change.specs.Inner.Told.{changes_told}
use Rattle.std.proofs.lemmas.Result.{err_from_is_err_and}
use Rattle.dv_catalog.specs.Inner.CatalogParts.{marked_of, marks_of}
use Rattle.dv_catalog.specs.Changes.{Change, apply, changes_of, done_to, put}
use Rattle.dv_catalog.specs.Inner.EffectLaws.{done_so}
use Rattle.dv_catalog.specs.Effects.{put_new}
use Rattle.dv_catalog.specs.State.{Namespaces, collection_of, documents_of, lists_of}
use Rattle.dv_catalog.specs.declared.failure.Stopped.{Stopped}
use Rattle.dv_catalog.proofs.Keeping.{collections_after, documents_after, kept_after, new_fresh, new_put}
use Rattle.dv_catalog.proofs.Marking.{are_marked, put_stops, stands_before, stands_done}
use Rattle.dv_catalog.proofs.catalog.Catalog.insert.Goals as goal

pub invariant_of-self-2 : goal.invariant_of-self-2
invariant_of-self-2 c =
    let old = c.self.inside.collections in
    let before = c.self.inside.views in
    let name = c.args.namespace.now in
    let changes : List Change = put c.args.document ∷ [] in
    let (made, does, many, leaves) = c.in_ok-insert.ensures in
    let fresh = new_fresh c.args.document (documents_of name old) made (done_so (collection_of name old) (put_new c.args.document) (record { matched = 1; changes = made }) does).0 in
    let told = c.in_ok-told.told.items in
    let makes : c.insert.new.self ≡ apply name changes old = leaves ∙ ap (λ (cs : List Change). apply name cs old) (new_put c.args.document (documents_of name old) made (done_so (collection_of name old) (put_new c.args.document) (record { matched = 1; changes = made }) does).0) in
    kept_after c.told_changes_are_made.ensures c.what_is_not_read_does_not_matter.ensures old c.insert.new.self before c.apply.new.self name changes (changes_told told) told c.self.invariant c.law_ordered.ensures (c.requires.identified, tt)
    (λ n. ap (λ (ns : Namespaces). documents_of n ns) makes ∙ documents_after old name changes n) refl (c.in_ok-told.ensures (documents_of name old) fresh) (rw c.deref.ensures.value at c.apply.ensures.right) c.apply.ensures.forms (rw (← c.self.view_is) at c.requires.collection)
    (λ n e. collections_after old name changes n (rw makes at e))

pub returns-clause-views : goal.returns-clause-views
returns-clause-views c = rw (← c.self.view_is) c.apply.ensures.forms

pub returns-in_err-told-clause-marks : goal.returns-in_err-told-clause-marks
returns-in_err-told-clause-marks c =
    let p = err_from_is_err_and c.from_residual.result c.from_residual.ensures.1 in
    stands_before c.args.namespace.now (done_to (collection_of c.args.namespace.now c.args.self.now.state.namespaces) (put_new c.args.document)) c.args.self.now c.from_residual.result p.0 p.1 (ap (λ (s : Stopped). s.done) p.2)

pub returns-in_err-insert-clause-marks : goal.returns-in_err-insert-clause-marks
returns-in_err-insert-clause-marks c =
    let name = c.args.namespace.now in
    let old = c.self.inside.collections in
    let p = err_from_is_err_and c.from_residual-in_err-insert.result c.from_residual-in_err-insert.ensures.1 in
    let stopped = c.in_err-insert.field-0.0 in
    rw (← c.self.view_is)
    (stands_before name (done_to (collection_of name old) (put_new c.args.document)) (marked_of old c.self.inside.views) c.from_residual-in_err-insert.result stopped (p.1 ∙ ap Err p.2)
    (put_stops c.args.document (collection_of name old) name old c.insert.new.self stopped c.in_err-insert.ensures))

pub returns-clause-marks : goal.returns-clause-marks
returns-clause-marks c =
    let old = c.self.inside.collections in
    let before = c.self.inside.views in
    let name = c.args.namespace.now in
    let changes : List Change = put c.args.document ∷ [] in
    let (made, does, many, leaves) = c.in_ok-insert.ensures in
    let fresh = new_fresh c.args.document (documents_of name old) made (done_so (collection_of name old) (put_new c.args.document) (record { matched = 1; changes = made }) does).0 in
    let told = c.in_ok-told.told.items in
    let are =
    are_marked c.told_changes_are_made.ensures c.what_is_not_read_is_not_counted.ensures (lists_of old) name changes (changes_told told) told refl before c.apply.new.self c.law_ordered.ensures (c.requires.identified, tt) (c.in_ok-told.ensures (documents_of name old) fresh) c.self.invariant.right
    (rw c.deref.ensures.value at c.apply.ensures.counted) in
    rw (← c.self.view_is) (stands_done name (done_to (collection_of name old) (put_new c.args.document)) (marked_of old before) (tt {0}) changes (ap changes_of does ∙ new_put c.args.document (documents_of name old) made (done_so (collection_of name old) (put_new c.args.document) (record { matched = 1; changes = made }) does).0) (marks_of c.apply.new.self) are)
