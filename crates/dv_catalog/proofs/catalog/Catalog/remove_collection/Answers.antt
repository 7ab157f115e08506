use Rattle.std.proofs.Common.{◌≡◌, inl, List, Some, true, subst, sym, ◌∙◌}
use Rattle.std.specs.FinMap as finite
use Rattle.dv_value.specs.Tree.{Field}
use Rattle.dv_views.specs.Inner.Applied.{CountsWork, StaysRight}
use Rattle.dv_views.specs.Inner.Changed.{gone_each, gones_of}
use Rattle.dv_catalog.specs.Marks.{all_gone}
use Rattle.dv_catalog.specs.State.{documents_of, is_collection, lists_of}
use Rattle.dv_catalog.specs.Inner.StateLaws.{documents_there}
use Rattle.dv_catalog.specs.Inner.View.{standing_seen}
use Rattle.dv_catalog.proofs.Kept.{all_can_go, each_told, kept_without}
use Rattle.dv_catalog.proofs.Deleted.{all_go_placed}
use Rattle.dv_catalog.proofs.Keys.{before_ascending}
use Rattle.dv_catalog.proofs.Marking.{are_marked}
use Rattle.dv_catalog.proofs.ToldViews.{OldLaws, all_gone_so}
use Rattle.dv_catalog.proofs.catalog.Catalog.remove_collection.Goals as goal

pub invariant_of-self : goal.invariant_of-self
invariant_of-self c =
    let name = c.args.namespace.now in
    let old = c.self.inside.collections in
    let before = c.self.inside.views in
    let documents = documents_of name old in
    let there : is_collection name old ≡ true = rw (← c.self.view_is) at c.requires in
    let gone : c.iter.result ≡ documents = c.iter.ensures.documents ∙ sym (documents_there old name (Some (standing_seen c.in-Some.collection.now)) (sym c.in-Some.ensures)) in
    let olds : OldLaws = record {
      finds = c.documents_stand_at_their_ids.ensures.found;
      behind = c.documents_stand_at_their_ids.ensures.changed;
      made = c.told_changes_are_made.ensures;
      keeps = c.changes_keep_the_order.ensures;
      others = c.documents_stand_where_they_are_found.ensures.others;
      without = c.removed_document_is_not_found.ensures;
    } in
    let so = all_gone_so olds documents (c.documents_stand_where_they_are_found.ensures.all documents c.law_ordered.ensures.0) c.law_ordered.ensures (all_go_placed c.removed_document_is_not_found.ensures documents (before_ascending documents c.law_ordered.ensures.0)) in
    rw c.remove.ensures
    (kept_without c.told_changes_are_made.ensures c.what_is_not_read_does_not_matter.ensures c.removed_document_is_not_found.ensures old before c.apply_gone.new.self name (gone_each documents) (gones_of documents) (each_told documents) c.self.invariant c.law_ordered.ensures there (inl so)
    (subst (λ (ds : List (List Field)). StaysRight name (gone_each ds) (gones_of ds) before c.apply_gone.new.self) gone c.apply_gone.ensures.right) c.apply_gone.ensures.forms)

pub returns-clause-state : goal.returns-clause-state
returns-clause-state c =
    rw (← c.self.view_is, c.remove.ensures)
    (λ i. record { namespaces = finite.remove c.self.inside.collections c.args.namespace.now; views = c.apply_gone.ensures.forms i })

pub returns-clause-marks : goal.returns-clause-marks
returns-clause-marks c =
    let name = c.args.namespace.now in
    let old = c.self.inside.collections in
    let before = c.self.inside.views in
    let documents = documents_of name old in
    let gone : c.iter.result ≡ documents = c.iter.ensures.documents ∙ sym (documents_there old name (Some (standing_seen c.in-Some.collection.now)) (sym c.in-Some.ensures)) in
    let olds : OldLaws = record {
      finds = c.documents_stand_at_their_ids.ensures.found;
      behind = c.documents_stand_at_their_ids.ensures.changed;
      made = c.told_changes_are_made.ensures;
      keeps = c.changes_keep_the_order.ensures;
      others = c.documents_stand_where_they_are_found.ensures.others;
      without = c.removed_document_is_not_found.ensures;
    } in
    let so = all_gone_so olds documents (c.documents_stand_where_they_are_found.ensures.all documents c.law_ordered.ensures.0) c.law_ordered.ensures (all_go_placed c.removed_document_is_not_found.ensures documents (before_ascending documents c.law_ordered.ensures.0)) in
    rw (← c.self.view_is)
    (are_marked c.told_changes_are_made.ensures c.what_is_not_read_is_not_counted.ensures (lists_of old) name (all_gone documents) (gone_each documents) (gones_of documents) (each_told documents) before c.apply_gone.new.self c.law_ordered.ensures (all_can_go c.removed_document_is_not_found.ensures old name c.law_ordered.ensures)
    (inl so) c.self.invariant.right (subst (λ (ds : List (List Field)). CountsWork name (gone_each ds) (gones_of ds) before c.apply_gone.new.self) gone c.apply_gone.ensures.counted))
