-- How the rows of finds are found.
use Rattle.std.proofs.Common.{◌≡◌, ◌||◌, ℕ, Bool, true, false, if◌then◌else◌, List, [], ◌∷◌, map, length, Option, Some, None, refl, sym, ap, ◌∙◌}
use Rattle.std.specs.FinMap as finite
use Rattle.dv_value.specs.Tree.{Field}
use Rattle.dv_match.specs.Filter.{Members}
use Rattle.dv_views.specs.Views.{View}
use Rattle.dv_views.specs.Inner.Views.{Views, view_form, is_view_named, has_view, rows_shown, view_under}
use Rattle.dv_catalog.specs.Inner.CatalogParts.{AreLive, rows_kept, rows_or, state_of}
use Rattle.dv_catalog.specs.IndexMaking.{explained, explained_at, over_view}
use Rattle.dv_catalog.specs.State.{Namespaces, documents_of, is_view, rows_of}
use Rattle.dv_catalog.proofs.Keeping.{view_forms}
use Rattle.dv_catalog.proofs.Refreshed.{none_shown}

named_is_there : (name : List ℕ) (vs : Views) (v : View) → view_under name vs ≡ Some v → has_view name vs ≡ true
named_is_there name [] v is = absurd cc
named_is_there name (w ∷ vs) v is = by_name (is_view_named name w) (named_is_there name vs v) is
  where
    by_name : (b : Bool) → (view_under name vs ≡ Some v → has_view name vs ≡ true) → (if b then Some w else view_under name vs) ≡ Some v → b || has_view name vs ≡ true
    by_name true rest is = refl
    by_name false rest is = rest is

shown_by : (name : List ℕ) (vs : Views) (there : Option View) → view_under name vs ≡ there → (rows : List (List Field)) → rows_shown name vs ≡ Some rows → has_view name vs ≡ true
shown_by name vs None is rows shown = let none : rows_shown name vs ≡ None = rw is refl in absurd (cc (none, shown))
shown_by name vs (Some v) is rows shown = named_is_there name vs v is

module _ (name : List ℕ) (filter : Members) (namespaces : Namespaces) (before after : Views) (forms : map view_form after ≡ map view_form before) where
  same_view : is_view name (map view_form before) ≡ has_view name after
  same_view = ap (is_view name) (sym forms) ∙ view_forms after name

  by_view : (b : Bool) → is_view name (map view_form before) ≡ b → explained name filter (state_of namespaces before) ≡ (if b then record { way = over_view; documents = length (rows_of name (state_of namespaces before)) } else explained_at filter (finite.get namespaces name))
  by_view b is = ap (λ (c : Bool). if c then record { way = over_view; documents = length (rows_of name (state_of namespaces before)) } else explained_at filter (finite.get namespaces name)) is

  pub view_explained : (rows : List (List Field)) → rows_shown name after ≡ Some rows → rows_kept name namespaces after ≡ rows_of name (state_of namespaces before)
      → explained name filter (state_of namespaces before) ≡ record { way = over_view; documents = length rows }
  view_explained rows shown kept =
      let are : rows ≡ rows_of name (state_of namespaces before) = sym (ap (λ (r : Option (List (List Field))). rows_or r (documents_of name namespaces)) shown) ∙ kept in
      by_view true (same_view ∙ shown_by name after (view_under name after) refl rows shown) ∙ (λ i. record { way = over_view; documents = length (sym are i) })

  pub collection_explained : AreLive (name ∷ []) after → rows_shown name after ≡ None → explained name filter (state_of namespaces before) ≡ explained_at filter (finite.get namespaces name)
  collection_explained all none = by_view false (same_view ∙ none_shown name after all none)
