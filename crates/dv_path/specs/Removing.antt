-- How the value at a path is removed from a document, as by `$unset` (MongoDB manual, "Update Operators"): an element of an array is
-- replaced by null, so that the other elements keep their indexes.
use Rattle.std.specs.Prelude.{ℕ, zero, suc, List, [], ◌∷◌, Option, Some, None, option_and_then}
use Rattle.std.specs.Option.{unwrap_or}
use Rattle.dv_value.specs.Tree.{Tree, document, array, null, Field, fields_of, list_of_fields, elements_of, list_of_elements}
use Rattle.dv_value.specs.Names.{value_under}
use Rattle.dv_candidates.specs.Candidates.{Candidate}
use Rattle.dv_candidates.specs.Path.{index_of}
use Rattle.dv_path.specs.Placing.{with_field}

-- the elements with the one at the index changed, if there is one
abbrev pub changed_at : ℕ → (Tree → Tree) → List Tree → List Tree
changed_at place change [] = []
changed_at zero change (v ∷ vs) = change v ∷ vs
changed_at (suc place) change (v ∷ vs) = v ∷ changed_at place change vs

-- the fields with the value under the name replaced by what remains of it; without the field if nothing remains
abbrev pub remove_field : (Tree → Candidate) → List ℕ → List Field → List Field
remove_field left name fields = with_field name (option_and_then left (value_under name fields)) fields

-- the elements with the one at the index replaced by what remains of it, or by null if nothing remains
abbrev pub remove_element : (Tree → Candidate) → Option ℕ → List Tree → List Tree
remove_element left None vs = vs
remove_element left (Some place) vs = changed_at place (λ v. unwrap_or (left v) null) vs

-- what remains of a value without what the path leads to: Missing if the path ends here, and the same value if the path leads to
-- nothing
abbrev pub left_behind : List (List ℕ) → Tree → Candidate
left_behind [] v = None
left_behind (name ∷ names) (document fs) = Some (document (fields_of (remove_field (left_behind names) name (list_of_fields fs))))
left_behind (name ∷ names) (array vs) = Some (array (elements_of (remove_element (left_behind names) (index_of name) (list_of_elements vs))))
left_behind (name ∷ names) v = Some v

-- a document without the value at the path
unfoldable pub remove : List Field → List (List ℕ) → List Field
remove fields [] = fields
remove fields (name ∷ names) = remove_field (left_behind names) name fields
