-- Fields with another value at a place, and arrays with a value more.
use Rattle.std.specs.Prelude.{ℕ, zero, suc, List, [], ◌∷◌, ◌++◌}
use Rattle.dv_value.specs.Tree.{Tree, array, Field, elements_of, list_of_elements}

-- the fields with the value in place of the one at a place
abbrev pub with_value_at : ℕ → Tree → List Field → List Field
with_value_at place v [] = []
with_value_at zero v (f ∷ fs) = (f.0, v) ∷ fs
with_value_at (suc place) v (f ∷ fs) = f ∷ with_value_at place v fs

-- a value with the other one after its elements, if it is an array
abbrev pub with_value_behind : Tree → Tree → Tree
with_value_behind v (array vs) = array (elements_of (list_of_elements vs ++ v ∷ []))
with_value_behind v t = t
