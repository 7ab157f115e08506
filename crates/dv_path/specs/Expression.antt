-- The value of a path in an expression.
use Rattle.std.specs.Prelude.{ℕ, List, [], ◌∷◌, Some, None, option_and_then}
use Rattle.std.specs.List.{filter_map}
use Rattle.dv_value.specs.Tree.{Tree, document, array, Field, fields_of, list_of_fields, elements_of, list_of_elements}
use Rattle.dv_value.specs.Names.{value_under}
use Rattle.dv_candidates.specs.Candidates.{Candidate}

-- continues with the value under the name if the value is a document; Missing for anything else
abbrev pub component_entered : (Tree → Candidate) → List ℕ → Tree → Candidate
component_entered rest name (document fs) = option_and_then rest (value_under name (list_of_fields fs))
component_entered rest name v = None

-- the value at a path that starts at a value; for an array, the array of what its documents have there, without Missing
abbrev pub expression : List (List ℕ) → Tree → Candidate
expression [] v = Some v
expression (name ∷ names) (array vs) = Some (array (elements_of (filter_map (component_entered (expression names) name) (list_of_elements vs))))
expression (name ∷ names) v = component_entered (expression names) name v

-- the value at a path of a document, in an expression
unfoldable pub expr : List Field → List (List ℕ) → Candidate
expr fields path = expression path (document (fields_of fields))
