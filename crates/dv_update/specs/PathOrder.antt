-- The order in which the paths of an update are applied, and when one of them begins another (MongoDB manual, "Update Operators Behavior").
-- That whole numbers come before other names is this server's own.
use Rattle.std.specs.Prelude.{ℕ, Bool, true, false, ◌&&◌, List, [], ◌∷◌, is_none}
use Rattle.std.specs.declared.cmp.Ordering.{Ordering}
use Rattle.std.specs.Ordering.{nat_cmp, bool_cmp, ordering_then}
use Rattle.std.specs.Cmp.Lexicographic.{slice_cmp}
use Rattle.std.specs.Option.{unwrap_or}
use Rattle.std.specs.Str.{bytes_eq}
use Rattle.dv_candidates.specs.Path.{index_of}

-- whether the component is not a whole number
abbrev pub is_name : List ℕ → Bool
is_name component = is_none (index_of component)

-- the value of a whole number; 0 for any other component
abbrev pub number_of : List ℕ → ℕ
number_of component = unwrap_or (index_of component) 0

-- whole numbers come first, by value; then other names, by bytes
abbrev pub component_order : List ℕ → List ℕ → Ordering
component_order a b = ordering_then (bool_cmp (is_name a) (is_name b)) (ordering_then (nat_cmp (number_of a) (number_of b)) (slice_cmp nat_cmp a b))

-- the first components that differ decide; a path comes before the longer ones that it begins
abbrev pub path_order : List (List ℕ) → List (List ℕ) → Ordering
path_order = slice_cmp component_order

-- the first path begins the second, or equals it
abbrev pub begins : List (List ℕ) → List (List ℕ) → Bool
begins [] q = true
begins (a ∷ p) [] = false
begins (a ∷ p) (b ∷ q) = bytes_eq a b && begins p q
