-- Of `Apart`, what only bodies and proofs need.
use Rattle.std.specs.Prelude.{ℕ, List, [], ◌∷◌, Option, Some, None, Bool, true, false}
use Rattle.dv_value.specs.Tree.{Field}
use Rattle.dv_path.specs.Slots.{Slot, taken, slot}

-- the paths of one component: fields of the document itself
abbrev pub fields_alone : List (List (List ℕ)) → List (List ℕ)
fields_alone [] = []
fields_alone ((name ∷ []) ∷ paths) = name ∷ fields_alone paths
fields_alone (path ∷ paths) = fields_alone paths

-- the longer ones
abbrev pub leading_further : List (List (List ℕ)) → List (List (List ℕ))
leading_further [] = []
leading_further ((a ∷ b ∷ path) ∷ paths) = (a ∷ b ∷ path) ∷ leading_further paths
leading_further (path ∷ paths) = leading_further paths

-- the component of a path that has but one
abbrev pub field_alone : List (List ℕ) → Option (List ℕ)
field_alone (name ∷ []) = Some name
field_alone path = None

-- whether a path leads to a value
abbrev pub is_taken : Slot → Bool
is_taken (taken v) = true
is_taken s = false

abbrev pub leads_to_value : List Field → List (List ℕ) → Bool
leads_to_value fields path = is_taken (slot fields path)
