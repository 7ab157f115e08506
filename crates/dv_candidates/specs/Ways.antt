-- Paths that enter no array.
use Rattle.std.specs.Prelude.{ℕ, List, [], ◌∷◌, Some, ⊤}
use Rattle.dv_value.specs.Tree.{document, array, list_of_fields}
use Rattle.dv_value.specs.Names.{value_under}
use Rattle.dv_candidates.specs.Candidates.{Candidate}

-- the path that starts at this candidate enters no array; the value at its end may be one
abbrev pub HasNoArray : List (List ℕ) → Candidate → Type 0
HasNoArray [] c = ⊤
HasNoArray (name ∷ names) (Some (document fs)) = HasNoArray names (value_under name (list_of_fields fs))
HasNoArray (name ∷ names) (Some (array vs)) = ⊥
HasNoArray (name ∷ names) c = ⊤
