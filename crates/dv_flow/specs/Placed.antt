-- What simple stages return for rows at positions: the rows that they return otherwise, each with a position.
use Rattle.std.specs.Prelude.{ℕ, suc, List, [], ◌∷◌, ◌++◌, filter, map, take}
use Rattle.std.specs.List.{flat_map}
use Rattle.dv_value.specs.Tree.{Field}
use Rattle.dv_order.specs.Key.{KeyTree}
use Rattle.dv_path.specs.declared.direction.Direction.{Direction}
use Rattle.dv_path.specs.declared.direction.Direction.TheVariants.{Ascending, Descending}
use Rattle.dv_path.specs.SortKey.{sort_key}
use Rattle.dv_path.specs.SortSpec as sorts
use Rattle.dv_change.specs.declared.position.Part.{Part}
use Rattle.dv_change.specs.declared.position.Part.TheVariants.{At, Down, Up}
use Rattle.dv_change.specs.Changes.{Positioned, in_row_order}
use Rattle.dv_change.specs.Positions.{PosTree}
use Rattle.dv_match.specs.Filter.{Members}
use Rattle.dv_match.specs.Match.{matches}
use Rattle.dv_row.specs.declared.project.Project.{Project}
use Rattle.dv_row.specs.declared.unwind.Unwind.{Unwind}
use Rattle.dv_row.specs.Projecting.{projected}
use Rattle.dv_row.specs.Unwinding.{unwound}

-- `$match`: the rows that match, at their positions
abbrev pub matched_at : Members → Positioned → Positioned
matched_at form rows = filter (λ e. matches form e.1) rows

-- `$project`: each row after the `$project`, at its position
abbrev pub shown_at : Project → Positioned → Positioned
shown_at p rows = map (λ e. (e.0, projected p e.1)) rows

-- rows at positions that continue `pos` by numbers, counted from i
abbrev pub rows_numbered : ℕ → PosTree → List (List Field) → Positioned
rows_numbered i pos [] = []
rows_numbered i pos (d ∷ ds) = (pos ++ At i ∷ [], d) ∷ rows_numbered (suc i) pos ds

-- `$unwind`: the rows for each row, at its position continued by their numbers
unfoldable pub unwound_at : Unwind → Positioned → Positioned
unwound_at u rows = in_row_order (flat_map (λ e. rows_numbered 0 e.0 (unwound u e.1)) rows)

-- a sort key as a part of a position
abbrev pub part_at : Direction → KeyTree → Part
part_at Ascending k = Up k
part_at Descending k = Down k

-- the sort keys of a row, as a position
abbrev pub sort_place : List sorts.Part → List Field → PosTree
sort_place parts d = map (λ p. part_at p.1 (sort_key d p.0 p.1)) parts

-- `$sort`: each row at the position of its sort keys, continued by its own position
unfoldable pub sorted_at : List sorts.Part → Positioned → Positioned
sorted_at parts rows = in_row_order (map (λ e. (sort_place parts e.1 ++ e.0, e.1)) rows)

-- `$limit`: the first rows
abbrev pub front_at : ℕ → Positioned → Positioned
front_at count rows = take count rows
