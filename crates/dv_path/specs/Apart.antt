-- Sets of paths in which no path equals or begins another.
use Rattle.std.specs.Prelude.{◌≡◌, ◌≢◌, ◌⊎◌, ⊤, ℕ, List, [], ◌∷◌}
use Rattle.dv_value.specs.Tree.{Field}
use Rattle.dv_path.specs.Removing.{remove}

-- two paths differ at some component that both have, so neither begins the other
abbrev pub AreApart : List (List ℕ) → List (List ℕ) → Type 0
AreApart [] q = ⊥
AreApart (a ∷ p) [] = ⊥
AreApart (a ∷ p) (b ∷ q) = (a ≢ b) ⊎ ((a ≡ b) × AreApart p q)

-- the path and each of these are apart
abbrev pub IsApartFrom : List (List ℕ) → List (List (List ℕ)) → Type 0
IsApartFrom p [] = ⊤
IsApartFrom p (q ∷ qs) = AreApart p q × IsApartFrom p qs

-- the paths are apart from one another
abbrev pub AreAllApart : List (List (List ℕ)) → Type 0
AreAllApart [] = ⊤
AreAllApart (p ∷ ps) = IsApartFrom p ps × AreAllApart ps

-- a document without the values at these paths
abbrev pub remove_each : List Field → List (List (List ℕ)) → List Field
remove_each fields [] = fields
remove_each fields (path ∷ paths) = remove_each (remove fields path) paths
