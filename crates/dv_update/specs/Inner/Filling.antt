-- Arrays that edits fill with nulls, how long they are at least, and the result without filling them.
use Rattle.std.specs.Prelude.{◌≡◌, ℕ, ◌+◌, ◌*◌, ◌-◌, ◌<◌, ◌&&◌, ◌||◌, min, not, nat_le, Bool, false, List, [], ◌∷◌, take, length, Option, Some, None, is_some, slice_get, Result, Ok, Err, codes, ◌⊎◌, if◌then◌else◌}
use Rattle.std.specs.Option.{option_map}
use Rattle.std.specs.Str.{bytes_eq}
use Rattle.dv_value.specs.Names.{value_under}
use Rattle.dv_value.specs.Spelling.{spelling}
use Rattle.dv_value.specs.Tree.{Tree, document, array, Field, fields_of, list_of_fields, list_of_elements}
use Rattle.dv_candidates.specs.Path.{index_of}
use Rattle.dv_update.specs.Apply.{Path, checked, document_limit, edited, leading_id}
use Rattle.dv_value.specs.Results.{◌>>=◌}
use Rattle.dv_update.specs.PathOrder.{begins, number_of}
use Rattle.dv_update.specs.Removals.{other_edits}
use Rattle.dv_update.specs.Inner.Collected.{Steps}
use Rattle.dv_update.specs.Inner.StandIn.{new_value}
use Rattle.dv_update.specs.Update.{Edit}
use Rattle.dv_update.specs.declared.fault.UpdateFault.{UpdateFault}
use Rattle.dv_update.specs.declared.fault.UpdateFault.TheVariants.{NoMemory}

-- the result of edits, or the first refusal
abbrev pub Made : Type 0
Made = Result (List Field) UpdateFault

-- ---- where arrays are filled

-- `beyond` from an element on; if there is no element and nulls may fill the array up to its place, the path itself
abbrev pub beyond_element : (Option Tree → Option Path) → Path → ℕ → Option Tree → Option Path
beyond_element further path place None = if nat_le place 100000 then Some path else None
beyond_element further path place (Some v) = further (Some v)

abbrev pub beyond_array : (Option Tree → Option Path) → Path → Option ℕ → List Tree → Option Path
beyond_array further path None vs = None
beyond_array further path (Some place) vs = beyond_element further path place (slice_get vs place)

-- the rest of a path from an array on, if the path leads from the value to this array and beyond its end
abbrev pub beyond : Path → Option Tree → Option Path
beyond [] c = None
beyond (name ∷ names) (Some (document fs)) = beyond names (value_under name (list_of_fields fs))
beyond (name ∷ names) (Some (array vs)) = beyond_array (beyond names) (name ∷ names) (index_of name) (list_of_elements vs)
beyond (name ∷ names) c = None

-- the path of an edit that fills an array, and the rest of it from the array on
abbrev pub Fill : Type 0
Fill = Path × Path

abbrev pub filled : Path → Path → Fill
filled path rest = (path, rest)

abbrev pub fill_of : List Field → Edit → Option Fill
fill_of d e = if is_some (new_value e.1) then option_map (filled e.0) (beyond e.0 (Some (document (fields_of d)))) else None

abbrev pub before : Option Fill → List Fill → List Fill
before None fills = fills
before (Some fill) fills = fill ∷ fills

abbrev pub fills : List Field → List Edit → List Fill
fills d [] = []
fills d (e ∷ es) = before (fill_of d e) (fills d es)

abbrev pub leads_into_id : Path → Bool
leads_into_id [] = false
leads_into_id (name ∷ names) = bytes_eq name (codes "_id")

-- whether an edit fills an array in the `_id` with which a document begins
abbrev pub fills_id : List Field → Edit → Bool
fills_id d e = is_some (leading_id d) && leads_into_id e.0 && is_some (fill_of d e)

-- ---- how long filled arrays are at least

-- the path to the array
abbrev pub array_of : Fill → Path
array_of f = take (length f.0 - length f.1) f.0

abbrev pub first_number : Path → ℕ
first_number [] = 0
first_number (name ∷ names) = number_of name

-- the place beyond the array's end
abbrev pub place_of : Fill → ℕ
place_of f = first_number f.1

-- the bytes of this many elements at least: each has its type, the digits of its place and a zero
abbrev pub elements_least : ℕ → ℕ
elements_least count = 3 * count + (count - 10) + (count - 100) + (count - 1000) + (count - 10000)

abbrev pub least : ℕ → ℕ
least place = elements_least (min place 100000 + 1)

-- whether the next fill leads into the same array
abbrev pub leads_into_same : Fill → List Fill → Bool
leads_into_same f [] = false
leads_into_same f (g ∷ fs) = begins (array_of f) g.0

abbrev pub first_least : Fill → List Fill → ℕ
first_least f fs = if leads_into_same f fs then 0 else least (place_of f)

abbrev pub least_size : List Fill → ℕ
least_size [] = 0
least_size (f ∷ fs) = first_least f fs + least_size fs

-- if nothing is refused, the result is longer than a stored document may be
abbrev pub IsTooLarge : Made → Type 0
IsTooLarge made = (after : List Field) → made ≡ Ok after → document_limit < length (spelling after)

-- ---- the result without filling them

-- the result after the final checks
abbrev pub judged : List Field → Made → Made
judged old made = made >>= checked old

-- whether an edit is left out because it fills an array; one that fills an array in `_id` is left out only if `with_id` is true
abbrev pub left_out : Bool → List Field → Edit → Bool
left_out with_id d e = is_some (fill_of d e) && (with_id || not (leads_into_id e.0))

-- both begin with the same `_id`, unless edits that fill it are left out
abbrev pub SameId : Bool → List Field → List Field → Type 0
SameId with_id left after = with_id ≡ false → leading_id left ≡ leading_id after

-- further edits are refused as all of them are; if they aren't refused, the `_id` is the same
pub record IsUnfilled (with_id : Bool) (document : List Field) (further : List Edit) (whole : Made) : Type 0 where
  pub refused : (f : UpdateFault) → edited (other_edits further) document ≡ Err f → whole ≡ Err f
  pub made : (left : List Field) → edited (other_edits further) document ≡ Ok left → (after : List Field) × (whole ≡ Ok after) × SameId with_id left after

-- this holds for what was made, or the fault is the first refusal
abbrev pub Unfills : Bool → Made → List Edit → Made → Type 0
Unfills with_id (Ok made) further whole = IsUnfilled with_id made further whole
Unfills with_id (Err f) further whole = (f ≡ NoMemory) ⊎ (whole ≡ Err f)

-- the same if no edit is left
abbrev pub Unfilled : Bool → Made → Made → Type 0
Unfilled with_id (Ok made) whole = (after : List Field) × (whole ≡ Ok after) × SameId with_id made after
Unfilled with_id (Err f) whole = (f ≡ NoMemory) ⊎ (whole ≡ Err f)

-- whatever edits follow this one, it holds after this edit if it held before
abbrev pub UnfillsOne : Bool → List Field → Edit → Made → Type 0
UnfillsOne with_id d e made = (further : List Edit) → (whole : Made) → Steps (e ∷ further) → IsUnfilled with_id d (e ∷ further) whole → Unfills with_id made further whole
