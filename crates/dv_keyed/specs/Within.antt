-- The bounds that a condition sets, and what is within them.
use Rattle.std.specs.Prelude.{ℕ, Bool, false, List}
use Rattle.std.specs.List.{list_any}
use Rattle.std.specs.declared.cmp.Ordering.{Ordering}
use Rattle.dv_value.specs.Tree.{Field}
use Rattle.dv_candidates.specs.Candidates.{Candidate, leaves}
use Rattle.dv_match.specs.Filter.{Condition, equal, among, in_range}
use Rattle.dv_match.specs.Match.{is_equal, is_among, is_in_range}

-- whether the candidate is within the bounds of a condition: an equality, `$in` or a range; nothing is within any other condition
abbrev pub is_within : Condition → Candidate → Bool
is_within (equal v) c = is_equal v c
is_within (among vs) c = is_among vs c
is_within (in_range r v) c = is_in_range r v c
is_within condition c = false

-- whether a leaf of the path in the document is within the bounds
unfoldable pub has_within : Condition → List (List ℕ) → List Field → Bool
has_within bounds path d = list_any (is_within bounds) (leaves d path)
