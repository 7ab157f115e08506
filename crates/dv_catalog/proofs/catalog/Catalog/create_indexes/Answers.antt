use Rattle.std.proofs.Common.{◌≡◌, false, Result, inl, map, refl, sym, subst, ◌∙◌}
use Rattle.dv_refusal.specs.declared.refusal.Refusal.{Refusal}
use Rattle.dv_keyed.specs.Inner.View.{form_of_new}
use Rattle.dv_views.specs.Inner.Views.{view_form}
use Rattle.dv_catalog.specs.Inner.CatalogParts.{state_of}
use Rattle.dv_catalog.specs.IndexMaking.{with_all}
use Rattle.dv_catalog.specs.Inner.Parts.{Leaves}
use Rattle.dv_catalog.specs.State.{State, collection_of, is_view}
use Rattle.dv_catalog.proofs.Keeping.{view_forms}
use Rattle.dv_catalog.proofs.MadeIndexes.{created_on_collection, kept_indexes, not_created_on_view, state_leaves}
use Rattle.dv_catalog.proofs.catalog.Catalog.create_indexes.Goals as goal

pub returns-then-has-clause-made : goal.returns-then-has-clause-made
returns-then-has-clause-made c =
    let name = c.args.namespace.now in
    rw (← c.self.view_is)
    (inl (not_created_on_view name (state_of c.self.inside.collections c.self.inside.views) (map form_of_new c.args.entries.items) (view_forms c.self.inside.views name ∙ sym c.has.ensures ∙ c.if-has.true)), refl)

pub invariant_of-self : goal.invariant_of-self
invariant_of-self c =
    let name = c.args.namespace.now in
    let old = c.self.inside.collections in
    let none : is_view name (map view_form c.self.inside.views) ≡ false = view_forms c.self.inside.views name ∙ sym c.has.ensures ∙ c.if-has.false in
    kept_indexes c.what_is_not_read_does_not_matter.ensures name old c.self.inside.views none (with_all (map form_of_new c.args.entries.items) (collection_of name old)) c.create_indexes.result c.create_indexes.new.self c.create_indexes.ensures.made c.self.invariant

pub returns-clause-made : goal.returns-clause-made
returns-clause-made c =
    let name = c.args.namespace.now in
    let old = c.self.inside.collections in
    let vs = c.self.inside.views in
    let none : is_view name (map view_form vs) ≡ false = view_forms vs name ∙ sym c.has.ensures ∙ c.if-has.false in
    rw (← c.self.view_is)
    (subst (λ (r : Result State Refusal). Leaves r (state_of old vs) c.create_indexes.result (state_of c.create_indexes.new.self vs)) (sym (created_on_collection name (state_of old vs) (map form_of_new c.args.entries.items) none))
    (state_leaves name old c.create_indexes.new.self vs (with_all (map form_of_new c.args.entries.items) (collection_of name old)) c.create_indexes.result c.create_indexes.ensures.made))
