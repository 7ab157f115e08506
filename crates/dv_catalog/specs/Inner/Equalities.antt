-- What a plan asks for by equalities.
use Rattle.std.specs.Prelude.{ℕ, List, [], ◌∷◌, Option, Some, None}
use Rattle.dv_value.specs.Tree.{Tree}
use Rattle.dv_match.specs.Filter.{Condition, equal, among}

abbrev equal_to : Condition → Option (List Tree)
equal_to (equal v) = Some (v ∷ [])
equal_to (among vs) = Some vs
equal_to c = None

-- the values of the condition that bounds the keys of a plan, if it is an equality or $in: each key equals one of them
abbrev pub equals_in : Option (ℕ × Condition) → Option (List Tree)
equals_in None = None
equals_in (Some plan) = equal_to plan.1
