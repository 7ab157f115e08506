-- Rows that begin with their `_id`s and have the keys of these as positions, and which stages keep this.
use Rattle.std.specs.Prelude.{◌≡◌, ◌&&◌, Bool, true, false, not, List, [], ◌∷◌, codes, fold}
use Rattle.std.specs.List.{AllByRecursion, list_any}
use Rattle.std.specs.Str.{bytes_eq}
use Rattle.dv_change.specs.Changes.{Positioned}
use Rattle.dv_change.specs.Inner.Changes.{IsPositioned}
use Rattle.dv_change.specs.Positions.{PosTree}
use Rattle.dv_pipe.specs.declared.stage.Stage.{Stage}
use Rattle.dv_pipe.specs.declared.stage.Stage.TheVariants.{Match, Project, Unwind, Sort, Limit, Group, Lookup}
use Rattle.dv_pipe.specs.Sources.{Row}
use Rattle.dv_row.specs.declared.project.Project as projects
use Rattle.dv_row.specs.declared.project.Project.TheVariants.{Include, Exclude}
use Rattle.dv_row.specs.Inner.Shown.{begins_with_name, is_alone}
use Rattle.dv_views.specs.Placed.{own_position}

-- the first field is `_id`
abbrev pub BeginsWithId : Row → Type 0
BeginsWithId [] = ⊥
BeginsWithId (f ∷ fs) = f.0 ≡ codes "_id"

-- a row begins with its `_id`, and its position is the key of this
abbrev pub IsAtId : PosTree × Row → Type 0
IsAtId e = BeginsWithId e.1 × (e.0 ≡ own_position e.1)

abbrev pub AreAtIds : Positioned → Type 0
AreAtIds rows = AllByRecursion IsAtId rows

-- rows are at their `_id`s, in the order of their positions
pub record AreById (rows : Positioned) : Type 0 where
  pub ids : AreAtIds rows
  pub positioned : IsPositioned rows

-- ---- stages

-- whether a $project shows `_id` as it is
abbrev pub shows_id : projects.Project → Bool
shows_id (Include paths es) = list_any (is_alone (codes "_id")) paths
shows_id (Exclude paths) = not (list_any (begins_with_name (codes "_id")) paths)

-- whether rows are at their `_id`s after a stage, by whether they are before it; the rows of groups always are
abbrev pub at_ids_behind : Bool → Stage → Bool
at_ids_behind before (Match form) = before
at_ids_behind before (Project p) = before && shows_id p
at_ids_behind before (Unwind u) = false
at_ids_behind before (Sort parts) = false
at_ids_behind before (Limit count) = before
at_ids_behind before (Group g) = true
at_ids_behind before (Lookup l) = before && not (bytes_eq l.target (codes "_id"))

-- the same after several stages
abbrev pub at_ids_through : Bool → List Stage → Bool
at_ids_through before stages = fold at_ids_behind before stages
