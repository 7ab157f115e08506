-- Collections: documents that each begin with an `_id` of their own, in ascending order of `_id`.
use Rattle.std.specs.Prelude.{◌≡◌, ℕ, pos, Bool, not, List, [], ◌∷◌, map, Option, None, Some, codes, if◌then◌else◌, ⊤}
use Rattle.std.specs.List.{AllByRecursion, find, filter}
use Rattle.std.specs.List.Sorted.{IsStrictlySortedBy}
use Rattle.std.specs.Ordering.{is_eq, is_lt}
use Rattle.dv_value.specs.FieldChange.{with_field_changed}
use Rattle.dv_value.specs.Tree.{Tree, int64, array, Field}
use Rattle.dv_value.specs.declared.field_change.FieldChange.{FieldChange}
use Rattle.dv_order.specs.Order.{canon}
use Rattle.dv_order.specs.Key.{KeyTree, value, key_order}

-- the value isn't an array
abbrev pub IsNoArray : Tree → Type 0
IsNoArray (array vs) = ⊥
IsNoArray v = ⊤

-- the first field is `_id`, and its value isn't an array
abbrev pub HasId : List Field → Type 0
HasId [] = ⊥
HasId (f ∷ fs) = (f.0 ≡ codes "_id") × IsNoArray f.1

-- the key of a document's `_id`; for a document without fields, which no collection has, the key of 0
abbrev pub id_key : List Field → KeyTree
id_key [] = value (int64 (pos 0))
id_key (f ∷ fs) = value (canon f.1)

-- the keys of the documents' `_id`s ascend strictly
abbrev pub IsAscending : List (List Field) → Type 0
IsAscending ds = IsStrictlySortedBy key_order (map id_key ds)

-- whether the document's `_id` has this key
abbrev pub has_key : KeyTree → List Field → Bool
has_key k d = is_eq (key_order k (id_key d))

-- the document whose `_id` has this key, if any
abbrev pub found : KeyTree → List (List Field) → Option (List Field)
found k ds = find (has_key k) ds

-- the documents with d inserted before the first that has a greater `_id`
abbrev pub inserted : List Field → List (List Field) → List (List Field)
inserted d [] = d ∷ []
inserted d (e ∷ ds) = if is_lt (key_order (id_key d) (id_key e)) then d ∷ e ∷ ds else e ∷ inserted d ds

-- the documents without the one whose `_id` has this key
abbrev pub removed : KeyTree → List (List Field) → List (List Field)
removed k ds = filter (λ d. not (has_key k d)) ds

-- the documents with d in place of the one with an equal `_id`
abbrev pub replaced : List Field → List (List Field) → List (List Field)
replaced d ds = map (λ e. if has_key (id_key d) e then d else e) ds

-- the documents, with the field under the name changed in the document that was found; unchanged if none was found
abbrev pub with_field_changed_in : Option (List Field) → List ℕ → FieldChange → List (List Field) → List (List Field)
with_field_changed_in None name c ds = ds
with_field_changed_in (Some d) name c ds = replaced (with_field_changed name c d) ds

-- each of `those` is found among the documents by its `_id`, as it is, and their `_id`s ascend
abbrev pub AreStanding : List (List Field) → List (List Field) → Type 0
AreStanding ds those = AllByRecursion (λ d. found (id_key d) ds ≡ Some d) those × IsAscending those
