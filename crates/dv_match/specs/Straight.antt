-- Paths that meet no array.
use Rattle.std.specs.Prelude.{ℕ, Bool, true, false, List, [], ◌∷◌, Some, None}
use Rattle.dv_value.specs.Tree.{document, array, list_of_fields}
use Rattle.dv_value.specs.Names.{value_under}
use Rattle.dv_candidates.specs.Candidates.{Candidate}

-- whether the path that starts at this candidate meets no array, on its way or at its end
abbrev pub meets_no_array : List (List ℕ) → Candidate → Bool
meets_no_array [] (Some (array vs)) = false
meets_no_array [] c = true
meets_no_array (name ∷ path) (Some (document fs)) = meets_no_array path (value_under name (list_of_fields fs))
meets_no_array (name ∷ path) (Some (array vs)) = false
meets_no_array (name ∷ path) c = true

-- where such a path leads: to the value under each name in turn, or to Missing
abbrev pub end_of : List (List ℕ) → Candidate → Candidate
end_of [] c = c
end_of (name ∷ path) (Some (document fs)) = end_of path (value_under name (list_of_fields fs))
end_of (name ∷ path) c = None
