-- Words that the laws about filters use.
use Rattle.std.specs.Prelude.{◌≡◌, ◌&&◌, ℕ, Bool, true, List, Some}
use Rattle.dv_value.specs.Tree.{Tree, Field, document, fields_of}
use Rattle.dv_candidates.specs.Candidates.{Candidate}
use Rattle.dv_match.specs.declared.range.Range.{Range}
use Rattle.dv_match.specs.Filter.{Conditions, in_range, no_conditions, more_conditions}
use Rattle.dv_match.specs.Match.{is_in_range}
use Rattle.dv_match.specs.Straight.{meets_no_array, end_of}

-- the conditions of two bounds, each of a range and a value
abbrev pub two_bounds : Range → Tree → Range → Tree → Conditions
two_bounds r v s w = more_conditions (in_range r v) (more_conditions (in_range s w) no_conditions)

-- whether the candidate is in both ranges
abbrev pub is_in_both : Range → Tree → Range → Tree → Candidate → Bool
is_in_both r v s w c = is_in_range r v c && is_in_range s w c

-- the path meets no array of the document, on its way or at its end
abbrev pub MeetsNoArray : List (List ℕ) → List Field → Type 0
MeetsNoArray path d = meets_no_array path (Some (document (fields_of d))) ≡ true

-- what such a path leads to in the document
abbrev pub value_at_end : List (List ℕ) → List Field → Candidate
value_at_end path d = end_of path (Some (document (fields_of d)))
