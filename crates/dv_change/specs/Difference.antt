-- The changes from one list of rows at positions to another.
use Rattle.std.specs.Prelude.{Bool, false, not, List, ◌++◌, map, Option, None, Some, is_none}
use Rattle.std.specs.List.{filter}
use Rattle.dv_value.specs.Tree.{Field, fields_of}
use Rattle.dv_order.specs.Same.{same_fields}
use Rattle.dv_change.specs.declared.change.Change.{Change}
use Rattle.dv_change.specs.declared.change.Change.TheVariants.{Put, Gone}
use Rattle.dv_change.specs.Changes.{Positioned, at}

-- whether there is a row, and it has the same encoding as the other
abbrev pub stands_as : Option (List Field) → List Field → Bool
stands_as None row = false
stands_as (Some there) row = same_fields (fields_of there) (fields_of row)

-- the removals of the old rows at whose positions the new list has no row
abbrev pub gones : Positioned → Positioned → List Change
gones old new = map (λ e. Gone e.0) (filter (λ e. is_none (at e.0 new)) old)

-- the changes to those new rows that the old list doesn't have in the same encoding at their positions
abbrev pub puts : Positioned → Positioned → List Change
puts old new = map (λ e. Put e.0 e.1) (filter (λ e. not (stands_as (at e.0 old) e.1)) new)

-- the changes from the old rows to the new ones: first the removals, then the inserted and replaced rows, each in the order of
-- positions
abbrev pub diff : Positioned → Positioned → List Change
diff old new = gones old new ++ puts old new
