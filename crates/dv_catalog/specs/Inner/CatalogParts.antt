-- What is true of collections and views together.
use Rattle.std.specs.Prelude.{◌≡◌, Bool, true, false, ℕ, List, map, Option, Some, None}
use Rattle.std.specs.List.{AllByRecursion, list_any}
use Rattle.dv_value.specs.Tree.{Field}
use Rattle.dv_pipe.specs.Stages.{Lists}
use Rattle.dv_views.specs.Forms.{is_name_among}
use Rattle.dv_views.specs.Views as views
use Rattle.dv_views.specs.Inner.Views as views_inner
use Rattle.dv_catalog.specs.Marks.{Mark, Marked, live, stale}
use Rattle.dv_catalog.specs.State.{Namespaces, State, documents_of, is_collection, is_view, lists_of, rows_of}

abbrev pub state_of : Namespaces → views_inner.Views → State
state_of namespaces registry = record { namespaces = namespaces; views = map views_inner.view_form registry }

-- the mark of a view
abbrev pub mark_of : views.ViewMark → Mark
mark_of (views.live kept) = live kept.ticks
mark_of views.stale = stale

abbrev pub marks_of : views_inner.Views → List Mark
marks_of registry = map (λ v. mark_of v.mark) registry

abbrev pub marked_of : Namespaces → views_inner.Views → Marked
marked_of namespaces registry = record { state = state_of namespaces registry; marks = marks_of registry }

-- each view that isn't stale has the rows of its pipeline over these collections; no view has the name of a collection
pub record IsKept (namespaces : Namespaces) (registry : views_inner.Views) : Type 0 where
  pub right : views_inner.AreRight (lists_of namespaces) registry
  pub apart : (name : List ℕ) → is_view name (map views_inner.view_form registry) ≡ true → is_collection name namespaces ≡ false

abbrev pub rows_or : Option (List (List Field)) → List (List Field) → List (List Field)
rows_or None others = others
rows_or (Some rows) others = rows

-- the rows that the view of a name shows, or else the documents under the name
abbrev pub rows_kept : List ℕ → Namespaces → views_inner.Views → List (List Field)
rows_kept name namespaces registry = rows_or (views_inner.rows_shown name registry) (documents_of name namespaces)

-- the rows that the view of a name shows, if it shows any, are those of the name
abbrev pub ShowsItsRows : List ℕ → Namespaces → views_inner.Views → Type 0
ShowsItsRows name namespaces registry = (rows : List (List Field)) → views_inner.rows_shown name registry ≡ Some rows → rows ≡ rows_of name (state_of namespaces registry)

-- the rows that are kept under a name are those of the name
abbrev pub KeepsItsRows : List ℕ → Namespaces → views_inner.Views → Type 0
KeepsItsRows name namespaces registry = rows_kept name namespaces registry ≡ rows_of name (state_of namespaces registry)

-- the rows that are kept under each name
abbrev pub lists_kept : Namespaces → views_inner.Views → Lists
lists_kept namespaces registry name = rows_kept name namespaces registry

-- the views of these names have their rows
abbrev pub AreLive : List (List ℕ) → views_inner.Views → Type 0
AreLive names registry = AllByRecursion (λ v. is_name_among v.name names ≡ true → views_inner.is_stale v.mark ≡ false) registry

-- there is a view, and it is stale
abbrev pub is_stale_view : Option views.View → Bool
is_stale_view None = false
is_stale_view (Some v) = views_inner.is_stale v.mark

-- a view of one of these names is stale
abbrev pub is_one_stale : List (List ℕ) → views_inner.Views → Bool
is_one_stale names registry = list_any (λ name. is_stale_view (views_inner.view_under name registry)) names
