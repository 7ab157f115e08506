-- What values weigh together, with one more after them, and as values of fields.
use Rattle.std.proofs.Common.{◌≡◌, ℕ, ◌+◌, ◌≤◌, List, [], ◌∷◌, ◌++◌, length, map, refl, ap, arith}
use Rattle.std.specs.List.{zip}
use Rattle.dv_value.specs.declared.value.Value.{Value}
use Rattle.dv_value.specs.Tree.{fields_of, elements_of}
use Rattle.dv_value.specs.Inner.Tree.{weight, fields_weight, elements_weight}
use Rattle.dv_value.specs.View.{tree}

abbrev pub values_weight : List Value → ℕ
values_weight values = elements_weight (elements_of (map tree values))

pub last_weighs : (vs : List Value) (v : Value) → values_weight (vs ++ v ∷ []) ≡ values_weight vs + weight (tree v)
last_weighs [] v = omega arith
last_weighs (w ∷ vs) v = omega (arith, last_weighs vs v)

-- names weigh nothing
pub fields_weigh_as_values : (ns : List (List ℕ)) (vs : List Value) → length vs ≤ length ns → values_weight vs ≡ fields_weight (fields_of (zip ns (map tree vs)))
fields_weigh_as_values [] [] le = refl
fields_weigh_as_values [] (v ∷ vs) le = absurd (omega arith)
fields_weigh_as_values (n ∷ ns) [] le = refl
fields_weigh_as_values (n ∷ ns) (v ∷ vs) le = ap (λ w. weight (tree v) + w) (fields_weigh_as_values ns vs (omega arith))
