-- How many documents an index has within given bounds, defined by the documents alone: an index has an entry for each key of each
-- document, and no others.
use Rattle.std.specs.Prelude.{ℕ, List, length, Option, None, Some}
use Rattle.std.specs.List.{count_by, slice_get}
use Rattle.dv_value.specs.Tree.{Field}
use Rattle.dv_match.specs.Filter.{Condition}
use Rattle.dv_keyed.specs.Within.{has_within}

-- the number of documents with a leaf of the path within the bounds; 0 without a path
abbrev pub covered_at : Option (List (List ℕ)) → Condition → List (List Field) → ℕ
covered_at None bounds ds = 0
covered_at (Some path) bounds ds = count_by (has_within bounds path) ds

-- the number of documents that a plan covers: those within the bounds of its index, or all for a scan
unfoldable pub covered : Option (ℕ × Condition) → List (List (List ℕ)) → List (List Field) → ℕ
covered None paths ds = length ds
covered (Some plan) paths ds = covered_at (slice_get paths plan.0) plan.1 ds
