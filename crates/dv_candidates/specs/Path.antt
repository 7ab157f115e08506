-- Paths: a text is split at its dots into components, each a field name or an array index.
use Rattle.std.specs.Prelude.{ℕ, ◌==◌, ◌&&◌, ◌||◌, not, nat_le, Bool, false, List, [], ◌∷◌, length, slice_index, Option, Some, None, if◌then◌else◌, ◌+◌, ◌*◌, ◌-◌}
use Rattle.std.specs.Char.{is_ascii_digit}
use Rattle.std.specs.List.{list_all, slice_split}
use Rattle.dv_value.specs.Names.{has_zero}

-- whether a component is valid: not empty, and without a zero byte
abbrev pub is_component : List ℕ → Bool
is_component [] = false
is_component (b ∷ bs) = not (has_zero (b ∷ bs))

-- the components of a path, if all of them are valid
unfoldable pub path_of : List ℕ → Option (List (List ℕ))
path_of text = let names = slice_split (λ b. b == 46) text in if list_all is_component names then Some names else None

-- whether the component is a whole number: one to ten digits, without a leading zero unless it is 0
abbrev pub is_whole_number : List ℕ → Bool
is_whole_number name = list_all is_ascii_digit name && nat_le 1 (length name) && nat_le (length name) 10 && (length name == 1 || not (slice_index name 0 == 48))

-- the number n, continued by these digits
abbrev pub number_behind : ℕ → List ℕ → ℕ
number_behind n [] = n
number_behind n (b ∷ bs) = number_behind (10 * n + (b - 48)) bs

-- the array index that a component gives, counted from 0, if it is a whole number
unfoldable pub index_of : List ℕ → Option ℕ
index_of name = if is_whole_number name then Some (number_behind 0 name) else None
