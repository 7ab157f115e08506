-- On which documents it depends whether the position of each row of a view is the key of its `_id`: definitions for bodies.
use Rattle.std.specs.Prelude.{◌≡◌, ℕ, List, map, Some, slice_get}
use Rattle.std.specs.Map.{values_of}
use Rattle.dv_views.specs.Inner.Body.{Body}
use Rattle.dv_views.specs.Inner.ById.{AreAtIds}
use Rattle.dv_views.specs.Forms.{outs_of, places_over}
use Rattle.dv_views.specs.Inner.Older.{Entries, views_before}
use Rattle.dv_views.specs.Placed.{ListPlaces}
use Rattle.dv_views.specs.Inner.Views.{view_form}

-- the rows of the view at a place are at their `_id`s, if the rows under a namespace are
abbrev pub IsBasedOn : {Y : Type 0} → List ℕ → ℕ → Entries Y → Type 0
IsBasedOn base place es = (places : ListPlaces) → AreAtIds (places base) → (b : Body) → slice_get (values_of es) place ≡ Some b → AreAtIds (outs_of b.stages b.source (places_over (map view_form (views_before place es)) places))
