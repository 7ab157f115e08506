-- Of `Removing`, what only bodies and proofs need.
use Rattle.std.specs.Prelude.{◌≡◌, ℕ, List, is_some, Bool}
use Rattle.std.specs.FinMap as finite
use Rattle.std.specs.List.{list_any}
use Rattle.std.specs.Str.{bytes_eq}
use Rattle.dv_value.specs.Inner.Places.{Places}

-- whether a name is one of these
abbrev pub is_name_of : List (List ℕ) → List ℕ → Bool
is_name_of names name = list_any (λ n. bytes_eq n name) names

-- each of the names has a place, and no other name has one
pub record HasEach (names : List (List ℕ)) (places : Places) : Type 0 where
  pub finds : (name : List ℕ) → is_some (finite.get places name) ≡ is_name_of names name
