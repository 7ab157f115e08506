-- What the stages of a pipeline return for rows at positions, and which lists they read.
use Rattle.std.specs.Prelude.{ℕ, List, [], ◌∷◌, map, take, drop, Option, None, Some}
use Rattle.dv_change.specs.declared.position.Part.TheVariants.{Up}
use Rattle.dv_change.specs.Changes.{Positioned}
use Rattle.dv_change.specs.Positions.{PosTree}
use Rattle.dv_change.specs.Work.{Transform}
use Rattle.dv_coll.specs.Collection.{id_key}
use Rattle.dv_flow.specs.Placed.{front_at, matched_at, shown_at, sorted_at, unwound_at}
use Rattle.dv_group.specs.Placed.{grouped_at}
use Rattle.dv_join.specs.Placed.{looked_up_at}
use Rattle.dv_join.specs.Turning.{first_input}
use Rattle.dv_pipe.specs.declared.stage.Stage.{Stage}
use Rattle.dv_pipe.specs.declared.stage.Stage.TheVariants.{Match, Project, Unwind, Sort, Limit, Group, Lookup}
use Rattle.dv_pipe.specs.Sources.{Row}
use Rattle.dv_pipe.specs.Stages.{Lists, from_of, looked_into}

-- the rows that a stage returns, from the lists that it reads by `$lookup` and from its rows
unfoldable pub stage_at : Stage → List Positioned → Positioned → Positioned
stage_at (Match form) named rows = matched_at form rows
stage_at (Project p) named rows = shown_at p rows
stage_at (Unwind u) named rows = unwound_at u rows
stage_at (Sort parts) named rows = sorted_at parts rows
stage_at (Limit count) named rows = front_at count rows
stage_at (Group g) named rows = grouped_at g rows
stage_at (Lookup l) named rows = looked_up_at l rows (first_input named)

-- the number of names: 0 or 1
abbrev pub listed_under : Option (List ℕ) → ℕ
listed_under None = 0
listed_under (Some collection) = 1

-- the number of lists that a stage reads by `$lookup`
abbrev pub lists_in : Stage → ℕ
lists_in s = listed_under (from_of s)

-- stages, each with the lists that it reads; these are given for all stages in their order
abbrev pub forms : List Stage → List Positioned → List Transform
forms [] named = []
forms (s ∷ ss) named = record { makes = stage_at s; named = take (lists_in s) named } ∷ forms ss (drop (lists_in s) named)

-- the names with one more in front, if there is one
abbrev pub names_with : Option (List ℕ) → List (List ℕ) → List (List ℕ)
names_with None names = names
names_with (Some name) names = name ∷ names

-- the namespaces that the stages read by `$lookup`, in their order, for a pipeline over a source
abbrev pub lookups_of : List Stage → List ℕ → List (List ℕ)
lookups_of [] source = []
lookups_of (s ∷ ss) source = names_with (looked_into s source) (lookups_of ss source)

-- the position of a document in its collection: the key of its `_id`
abbrev pub own_position : Row → PosTree
own_position d = Up (id_key d) ∷ []

-- documents at their positions
abbrev pub positioned : List Row → Positioned
positioned documents = map (λ d. (own_position d, d)) documents

-- the rows at positions of each namespace
abbrev pub ListPlaces : Type 0
ListPlaces = List ℕ → Positioned

-- documents of each namespace, at their positions
abbrev pub list_places : Lists → ListPlaces
list_places lists name = positioned (lists name)
