-- How a value is put at a path of a document, as by `$set` (MongoDB manual, "Update Operators", "Set Fields in Embedded Documents",
-- "Set Elements in Arrays"). The limit for an index beyond an array's end is this server's own.
use Rattle.std.specs.Prelude.{ℕ, zero, suc, ◌||◌, nat_lt, nat_le, List, [], ◌∷◌, ◌++◌, length, Option, Some, None, slice_get, Result, Ok, Err, if◌then◌else◌}
use Rattle.std.specs.Str.{bytes_eq}
use Rattle.dv_value.specs.Tree.{Tree, document, array, null, Field, fields_of, list_of_fields, elements_of, list_of_elements}
use Rattle.dv_value.specs.Names.{value_under}
use Rattle.dv_candidates.specs.declared.fault.PathFault.{PathFault}
use Rattle.dv_candidates.specs.declared.fault.PathFault.TheVariants.{NotViable, IndexTooLarge}
use Rattle.dv_candidates.specs.Candidates.{Candidate}
use Rattle.dv_candidates.specs.Path.{index_of}

-- f applied to a result; a fault stays the same
abbrev pub result_map : {X Y : Type 0} → (X → Y) → Result X PathFault → Result Y PathFault
result_map f (Ok x) = Ok (f x)
result_map f (Err e) = Err e

-- the field with the candidate's value; no field for Missing
abbrev pub field_with : List ℕ → Candidate → List Field
field_with name None = []
field_with name (Some v) = (name, v) ∷ []

-- The fields with the candidate's value under the name: in its present place, or as the last field if it is new. For Missing, the
-- fields without that name.
abbrev pub with_field : List ℕ → Candidate → List Field → List Field
with_field name c [] = field_with name c
with_field name c (f ∷ fs) = if bytes_eq name f.0 then field_with f.0 c ++ fs else f ∷ with_field name c fs

-- the elements with a value at an index; nulls fill the gap if the index is beyond the end
abbrev pub with_element : ℕ → Tree → List Tree → List Tree
with_element zero v [] = v ∷ []
with_element zero v (w ∷ ws) = v ∷ ws
with_element (suc place) v [] = null ∷ with_element place v []
with_element (suc place) v (w ∷ ws) = w ∷ with_element place v ws

-- the fields with the value under the name replaced by the result of `put` for it, or for Missing if it is new
abbrev pub put_field : (Candidate → Result Tree PathFault) → List ℕ → List Field → Result (List Field) PathFault
put_field put name fields = result_map (λ v. with_field name (Some v) fields) (put (value_under name fields))

-- the elements with the one at the index replaced by the result of `put`; an index beyond the end is at most 100,000
abbrev pub put_element : (Candidate → Result Tree PathFault) → Option ℕ → List Tree → Result (List Tree) PathFault
put_element put None vs = Err NotViable
put_element put (Some place) vs = if nat_lt place (length vs) || nat_le place 100000 then result_map (λ v. with_element place v vs) (put (slice_get vs place)) else Err IndexTooLarge

-- A candidate with a value put at the path that starts there. Missing documents on the way are created; any other value on the way is a
-- fault, unless it is a document or an array entered by an index.
abbrev pub put_behind : List (List ℕ) → Tree → Candidate → Result Tree PathFault
put_behind [] v c = Ok v
put_behind (name ∷ names) v None = result_map (λ fs. document (fields_of fs)) (put_field (put_behind names v) name [])
put_behind (name ∷ names) v (Some (document fs)) = result_map (λ gs. document (fields_of gs)) (put_field (put_behind names v) name (list_of_fields fs))
put_behind (name ∷ names) v (Some (array vs)) = result_map (λ ws. array (elements_of ws)) (put_element (put_behind names v) (index_of name) (list_of_elements vs))
put_behind (name ∷ names) v c = Err NotViable

-- a document with a value put at the path
unfoldable pub put : List Field → List (List ℕ) → Tree → Result (List Field) PathFault
put fields [] v = Ok fields
put fields (name ∷ names) v = put_field (put_behind names v) name fields
