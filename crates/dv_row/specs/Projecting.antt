-- What `$project` returns for a row (MongoDB manual, "$project (aggregation)"). The order of the remaining fields, and the treatment of
-- elements that are neither documents nor arrays, are this server's own.
use Rattle.std.specs.Prelude.{ℕ, Bool, true, false, not, List, [], ◌∷◌, Some, None, if◌then◌else◌}
use Rattle.std.specs.List.{list_any}
use Rattle.std.specs.Str.{bytes_eq}
use Rattle.dv_value.specs.Tree.{Tree, document, array, Fields, no_fields, field, Elements, no_elements, element, fields_of, list_of_fields}
use Rattle.dv_candidates.specs.Candidates.{Candidate}
use Rattle.dv_row.specs.declared.project.Project.{Project}
use Rattle.dv_row.specs.declared.project.Project.TheVariants.{Include, Exclude}
use Rattle.dv_row.specs.Expressions.{with_computed}
use Rattle.dv_row.specs.Row.{Row}

-- what follows this name in the paths that begin with it
abbrev pub paths_behind : List ℕ → List (List (List ℕ)) → List (List (List ℕ))
paths_behind name [] = []
paths_behind name ([] ∷ paths) = paths_behind name paths
paths_behind name ((n ∷ ns) ∷ paths) = if bytes_eq name n then ns ∷ paths_behind name paths else paths_behind name paths

-- whether the path ends here
abbrev pub ends : List (List ℕ) → Bool
ends [] = true
ends (n ∷ ns) = false

-- the value if the flag is true, otherwise Missing
abbrev pub if_it : Bool → Tree → Candidate
if_it true v = Some v
if_it false v = None

-- the field in front of the others, if there is a value
abbrev pub with_left : List ℕ → Candidate → Fields → Fields
with_left name None fs = fs
with_left name (Some v) fs = field name v fs

-- the element in front of the others, if there is a value
abbrev pub with_element_left : Candidate → Elements → Elements
with_element_left None vs = vs
with_element_left (Some v) vs = element v vs

-- What remains of a value, given what follows it in the paths that lead to it: if `keeps` is true only what they lead to, otherwise all
-- but that. `inside` is what remains within the value.
abbrev pub left_at : Bool → List (List (List ℕ)) → Tree → Candidate → Candidate
left_at keeps [] v inside = if_it (not keeps) v
left_at keeps (path ∷ paths) v inside = if list_any ends (path ∷ paths) then if_it keeps v else inside

-- what remains within a value, of fields, and of elements, given what follows them in the paths that lead to them
unfoldable mutual
  -- what remains of a value at which no path ends: of a document's fields, and of each element of an array
  pub left_inside : Bool → List (List (List ℕ)) → Tree → Candidate
  left_inside keeps paths (document fs) = Some (document (fields_left keeps paths fs))
  left_inside keeps paths (array vs) = Some (array (elements_left keeps paths vs))
  left_inside keeps paths v = if_it (not keeps) v

  pub fields_left : Bool → List (List (List ℕ)) → Fields → Fields
  fields_left keeps paths no_fields = no_fields
  fields_left keeps paths (field name v fs) = with_left name (left_at keeps (paths_behind name paths) v (left_inside keeps (paths_behind name paths) v)) (fields_left keeps paths fs)

  pub elements_left : Bool → List (List (List ℕ)) → Elements → Elements
  elements_left keeps paths no_elements = no_elements
  elements_left keeps paths (element v vs) = with_element_left (left_inside keeps paths v) (elements_left keeps paths vs)

-- what remains of a value, given what follows it in the paths that lead to it
abbrev pub left_of_value : Bool → List (List (List ℕ)) → Tree → Candidate
left_of_value keeps paths v = left_at keeps paths v (left_inside keeps paths v)

-- what remains of a row: only what the paths lead to, or all but that
abbrev pub row_left : Bool → List (List (List ℕ)) → Row → Row
row_left keeps paths d = list_of_fields (fields_left keeps paths (fields_of d))

-- a row after `$project`: the included paths followed by the computed fields, or all but the excluded paths
unfoldable pub projected : Project → Row → Row
projected (Include paths es) d = with_computed es d (row_left true paths d)
projected (Exclude paths) d = row_left false paths d
