-- Documents whose first names are those of a row.
use Rattle.std.specs.Prelude.{◌≡◌, ℕ, List, [], ◌∷◌, Some, length, map, slice_get, ⊤}
use Rattle.dv_value.specs.Tree.{Tree}
use Rattle.dv_row.specs.Row.{Row}

-- the names of the row are the first ones of the document
abbrev pub BeginsAs : Row → Row → Type 0
BeginsAs d [] = ⊤
BeginsAs [] (f ∷ row) = ⊥
BeginsAs (e ∷ d) (f ∷ row) = (e.0 ≡ f.0) × BeginsAs d row

-- the same, and after them comes this name
abbrev pub HasNamesOf : Row → Row → List ℕ → Type 0
HasNamesOf d row name = BeginsAs d row × (v : Tree) × (slice_get d (length row) ≡ Some (name, v))

abbrev pub values_of : Row → List Tree
values_of = map (λ f. f.1)
