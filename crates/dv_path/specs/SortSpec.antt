-- Sorts: paths, each with a direction (MongoDB manual, "cursor.sort()").
use Rattle.std.specs.Prelude.{ℕ, ℤ, pos, negsuc, ◌&&◌, nat_le, List, [], ◌∷◌, length, Option, Some, None, if◌then◌else◌, option_and_then}
use Rattle.std.specs.Ordering.{int_eq}
use Rattle.dv_value.specs.Tree.{Tree, int32, int64, Field}
use Rattle.dv_path.specs.declared.direction.Direction.{Direction}
use Rattle.dv_path.specs.declared.direction.Direction.TheVariants.{Ascending, Descending}
use Rattle.dv_candidates.specs.Path.{path_of}

-- one part of a sort: a path and its direction
abbrev pub Part : Type 0
Part = List (List ℕ) × Direction

-- the direction that a number gives: 1 is ascending, -1 descending
abbrev pub direction_of_number : ℤ → Option Direction
direction_of_number n = if int_eq n (pos 1) then Some Ascending else if int_eq n (negsuc 0) then Some Descending else None

-- the direction that a value gives, an int32 or int64
abbrev pub direction_of : Tree → Option Direction
direction_of (int32 n) = direction_of_number n
direction_of (int64 n) = direction_of_number n
direction_of v = None

-- a field of a sort as a path and its direction, if it is valid
abbrev pub part_of : Field → Option Part
part_of f = option_and_then (λ direction. option_and_then (λ path. Some (path, direction)) (path_of f.0)) (direction_of f.1)

-- all fields of a sort as paths with directions, if each is valid
abbrev pub parts_of : List Field → Option (List Part)
parts_of [] = Some []
parts_of (f ∷ fs) = option_and_then (λ part. option_and_then (λ parts. Some (part ∷ parts)) (parts_of fs)) (part_of f)

-- a parsed sort: it has 1 to 32 paths
abbrev pub sort_spec_of : List Field → Option (List Part)
sort_spec_of fs = if nat_le 1 (length fs) && nat_le (length fs) 32 then parts_of fs else None
