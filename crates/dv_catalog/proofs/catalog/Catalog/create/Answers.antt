use Rattle.std.proofs.Common.{◌≡◌, ◌⊎◌, true, false, Some, None, inl, inr, refl, sym, ◌∙◌}
use Rattle.std.specs.Option.{option_map}
use Rattle.std.specs.String.{string_bytes}
use Rattle.dv_command.specs.Inner.View.{view_on_seen}
use Rattle.dv_views.specs.Inner.Views.{has_view}
use Rattle.dv_catalog.specs.Inner.CatalogParts.{state_of}
use Rattle.dv_catalog.specs.State.{is_collection, is_there}
use Rattle.dv_catalog.proofs.Kept.{created_is_made, is_free, is_taken, kept_empty, not_created, not_there}
use Rattle.dv_catalog.proofs.catalog.Catalog.create.Goals as goal
use Rattle.dv_catalog.proofs.catalog.Catalog.create.Goals.{then-has-via-then-has, then-has-via-else-has+then-has-2}

pub returns-then-has-clause-made : goal.returns-then-has-clause-made
returns-then-has-clause-made c =
    let name = string_bytes c.args.create.namespace in
    let there : (is_collection name c.self.inside.collections ≡ true) ⊎ (has_view name c.self.inside.views ≡ true) =
    elim c.then-has.branch [
      | then-has-via-then-has w ↦ inl (sym (rw c.deref.ensures at c.has.ensures) ∙ w.if-has.true)
      | then-has-via-else-has+then-has-2 w ↦ inr (sym (rw w.deref-else-has.ensures at w.has-else-has.ensures) ∙ w.if-has-2.true)
    ] in
    rw (← c.self.view_is) (inl (not_created name (option_map view_on_seen c.args.create.view) (state_of c.self.inside.collections c.self.inside.views) (is_taken name c.self.inside.collections c.self.inside.views there)), refl)

pub invariant_of-self-in-None : goal.invariant_of-self-in-None
invariant_of-self-in-None c =
    let name = string_bytes c.args.create.namespace in
    let none = sym (rw c.deref.ensures at c.has.ensures) ∙ c.if-has.false in
    let no_view = sym (rw c.deref-else-has.ensures at c.has-else-has.ensures) ∙ c.if-has-2.false in
    rw (rw c.deref-in-None.ensures at c.in_ok-make_empty-in-None.ensures.ok) (kept_empty c.what_is_not_read_does_not_matter.ensures name c.self.inside.collections c.self.inside.views (not_there _ none) no_view c.self.invariant)

pub returns-in-None-clause-made : goal.returns-in-None-clause-made
returns-in-None-clause-made c =
    let name = string_bytes c.args.create.namespace in
    let none = sym (rw c.deref.ensures at c.has.ensures) ∙ c.if-has.false in
    let no_view = sym (rw c.deref-else-has.ensures at c.has-else-has.ensures) ∙ c.if-has-2.false in
    rw (← c.self.view_is, rw c.deref-in-None.ensures at c.in_ok-make_empty-in-None.ensures.ok, c.in-None.is)
    (created_is_made name None (state_of c.self.inside.collections c.self.inside.views) (is_free name c.self.inside.collections c.self.inside.views none no_view))

pub create_view-requires : goal.create_view-requires
create_view-requires c =
    let name = string_bytes c.args.create.namespace in
    let none = sym (rw c.deref.ensures at c.has.ensures) ∙ c.if-has.false in
    let no_view = sym (rw c.deref-else-has.ensures at c.has-else-has.ensures) ∙ c.if-has-2.false in
    rw (← c.self.view_is, c.deref-in-Some.ensures) (is_free name c.self.inside.collections c.self.inside.views none no_view)

pub returns-clause-made : goal.returns-clause-made
returns-clause-made c =
    let name = string_bytes c.args.create.namespace in
    let none = sym (rw c.deref.ensures at c.has.ensures) ∙ c.if-has.false in
    let no_view = sym (rw c.deref-else-has.ensures at c.has-else-has.ensures) ∙ c.if-has-2.false in
    let free : is_there name c.args.self.now.state ≡ false = rw (← c.self.view_is) (is_free name c.self.inside.collections c.self.inside.views none no_view) in
    rw (c.in-Some.is, created_is_made name (Some (view_on_seen c.in-Some.view)) c.args.self.now.state free) (rw c.deref-in-Some.ensures at c.create_view.ensures.made)
