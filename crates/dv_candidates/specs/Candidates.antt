-- Where a path leads in a document: to a list of candidates, each a value or Missing.
use Rattle.std.specs.Prelude.{ℕ, List, [], ◌∷◌, ◌++◌, map, Option, Some, None, slice_get}
use Rattle.std.specs.List.{flat_map}
use Rattle.dv_value.specs.Tree.{Tree, document, array, null, Field, fields_of, list_of_fields, list_of_elements}
use Rattle.dv_value.specs.Names.{value_under}
use Rattle.dv_candidates.specs.Path.{index_of}

-- a value, or `None` for Missing
abbrev pub Candidate : Type 0
Candidate = Option Tree

-- the candidate's value; null for Missing
abbrev pub or_null : Candidate → Tree
or_null None = null
or_null (Some v) = v

-- what a document has under a name: the value there, or Missing; no candidate for any other value
abbrev pub entered : List ℕ → Tree → List Candidate
entered name (document fs) = value_under name (list_of_fields fs) ∷ []
entered name v = []

-- the value as a candidate, if there is one; no candidate otherwise
abbrev pub candidate_found : Candidate → List Candidate
candidate_found None = []
candidate_found (Some v) = Some v ∷ []

-- the array's element at the index that a whole number gives, if there is one
abbrev pub picked : Option ℕ → List Tree → List Candidate
picked None vs = []
picked (Some place) vs = candidate_found (slice_get vs place)

-- One component further: a document has the value under the name, or Missing. An array has the element at the index, if the component
-- is a whole number, and then what each of its documents has under the name. Anything else gives Missing.
abbrev pub step_from : List ℕ → Candidate → List Candidate
step_from name (Some (document fs)) = entered name (document fs)
step_from name (Some (array vs)) = picked (index_of name) (list_of_elements vs) ++ flat_map (entered name) (list_of_elements vs)
step_from name c = None ∷ []

-- the candidates of a path that starts at a candidate
abbrev pub candidates : List (List ℕ) → Candidate → List Candidate
candidates [] c = c ∷ []
candidates (name ∷ names) c = flat_map (candidates names) (step_from name c)

-- the candidates of a path in a document
unfoldable pub whole : List Field → List (List ℕ) → List Candidate
whole fields path = candidates path (Some (document (fields_of fields)))

-- the elements of an array; none if the candidate isn't an array
abbrev pub array_in : Candidate → Option (List Tree)
array_in (Some (array vs)) = Some (list_of_elements vs)
array_in c = None

-- the candidate, followed by its elements if it is an array
abbrev pub with_elements : Candidate → List Candidate
with_elements (Some (array vs)) = Some (array vs) ∷ map Some (list_of_elements vs)
with_elements c = c ∷ []

-- the leaves of a path in a document: its candidates, each array followed by its elements
unfoldable pub leaves : List Field → List (List ℕ) → List Candidate
leaves fields path = flat_map with_elements (whole fields path)
