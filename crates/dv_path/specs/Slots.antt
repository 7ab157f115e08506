-- The place that an update's path leads to in a document. There is at most one, since a path enters an array only by an index. This is
-- this server's own; fields are found by MongoDB's dot notation.
use Rattle.std.specs.Prelude.{ℕ, List, [], ◌∷◌, Option, Some, None, slice_get}
use Rattle.dv_value.specs.Tree.{Tree, document, array, Field, fields_of, list_of_fields, list_of_elements}
use Rattle.dv_value.specs.Names.{value_under}
use Rattle.dv_candidates.specs.Path.{index_of}

-- what is at the place: a value; nothing yet, although `put` may still refuse an index that is too large; or no place, since another value
-- is in the way
pub data Slot : Type 0 where
  taken : Tree → Slot
  free : Slot
  blocked : Slot

-- the place of a field or element that may be missing
abbrev pub slot_of : Option Tree → Slot
slot_of None = free
slot_of (Some v) = taken v

-- the place of an array's element: only a whole number leads to one, and beyond the end it is free
abbrev pub element_slot : Option ℕ → List Tree → Slot
element_slot None vs = blocked
element_slot (Some place) vs = slot_of (slice_get vs place)

-- one component further: a field of a document or an element of an array; any other value is in the way
abbrev pub next_slot : List ℕ → Slot → Slot
next_slot name (taken (document fs)) = slot_of (value_under name (list_of_fields fs))
next_slot name (taken (array vs)) = element_slot (index_of name) (list_of_elements vs)
next_slot name (taken v) = blocked
next_slot name s = s

-- the place that the path leads to from a given one
abbrev pub slot_behind : List (List ℕ) → Slot → Slot
slot_behind [] s = s
slot_behind (name ∷ names) s = slot_behind names (next_slot name s)

-- the place that a path leads to in a document
unfoldable pub slot : List Field → List (List ℕ) → Slot
slot fields path = slot_behind path (taken (document (fields_of fields)))
