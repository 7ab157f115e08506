use Rattle.std.proofs.Common.{◌≡◌, false, inl, map, refl, sym, ◌∙◌}
use Rattle.dv_views.specs.Inner.Views.{view_form}
use Rattle.dv_catalog.specs.Inner.CatalogParts.{state_of}
use Rattle.dv_catalog.specs.State.{is_collection, is_view}
use Rattle.dv_catalog.proofs.Keeping.{view_forms}
use Rattle.dv_catalog.proofs.MadeIndexes.{kept_dropped, not_dropped_on_view, state_dropped}
use Rattle.dv_catalog.proofs.catalog.Catalog.drop_indexes.Goals as goal

pub returns-then-has-clause-made : goal.returns-then-has-clause-made
returns-then-has-clause-made c =
    let name = c.args.namespace.now in
    rw (← c.self.view_is)
    (inl (not_dropped_on_view name (state_of c.self.inside.collections c.self.inside.views) c.args.name.now (view_forms c.self.inside.views name ∙ sym c.has.ensures ∙ c.if-has.true)), refl)

pub invariant_of-self : goal.invariant_of-self
invariant_of-self c =
    let name = c.args.namespace.now in
    let old = c.self.inside.collections in
    let none : is_view name (map view_form c.self.inside.views) ≡ false = view_forms c.self.inside.views name ∙ sym c.has.ensures ∙ c.if-has.false in
    kept_dropped name c.args.name.now old c.drop_indexes.new.self c.self.inside.views c.drop_indexes.result none c.what_is_not_read_does_not_matter.ensures (is_collection name old) c.drop_indexes.ensures.made c.self.invariant

pub returns-clause-made : goal.returns-clause-made
returns-clause-made c =
    let name = c.args.namespace.now in
    let old = c.self.inside.collections in
    let none : is_view name (map view_form c.self.inside.views) ≡ false = view_forms c.self.inside.views name ∙ sym c.has.ensures ∙ c.if-has.false in
    rw (← c.self.view_is) (state_dropped name c.args.name.now old c.drop_indexes.new.self c.self.inside.views c.drop_indexes.result none (is_collection name old) refl c.drop_indexes.ensures.made)
