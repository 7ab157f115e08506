-- Valid fields and values: what is put among them and what is left of them is valid.
use Rattle.std.proofs.Common.{◌≡◌, ◌∙◌, sym, refl, subst, ℕ, zero, suc, ◌<◌, ◌||◌, not, nat_lt, nat_le, Bool, true, false, List, [], ◌∷◌, ◌++◌, length, get_or, Option, Some, None, slice_get, Result, Ok, Err, codes, arith, if◌then◌else◌}
use Rattle.std.proofs.lemmas.Str.{IsUtf8-from_ascii}
use Rattle.std.specs.Bool.{⊤}
use Rattle.std.specs.List.{AllByRecursion}
use Rattle.std.specs.Option.{IfSome, unwrap_or, option_and_then}
use Rattle.std.specs.Result.{IfOk}
use Rattle.std.specs.Str.{IsUtf8, bytes_eq}
use Rattle.std.proofs.lemmas.Bool.{or_from, or_parts}
use Rattle.dv_value.specs.Names.{has_name, has_zero, value_under}
use Rattle.dv_value.specs.Spelling.{IsValue, AreFields}
use Rattle.dv_value.specs.Tree.{Tree, document, array, null, Fields, no_fields, field, Field, fields_of, list_of_fields, elements_of, list_of_elements}
use Rattle.dv_value.specs.Inner.TreeLaws.{fields_again}
use Rattle.dv_value.specs.Inner.ValidLaws.{AreValues, either, listed-elements, valid-elements}
use Rattle.dv_value.specs.Inner.ByteLaws.{bytes_eq-symmetric}
use Rattle.dv_candidates.specs.Path.{index_of}
use Rattle.dv_path.specs.Placing.{result_map, field_with, with_field, with_element, put_field, put_element, put_behind, put}
use Rattle.dv_path.specs.Removing.{changed_at, remove_field, remove_element, left_behind, remove}
use Rattle.dv_path.specs.Slots.{Slot, taken, free, blocked, slot_of, element_slot, next_slot, slot_behind, slot}
use Rattle.dv_candidates.specs.declared.fault.PathFault.{PathFault}
use Rattle.dv_candidates.specs.declared.fault.PathFault.TheVariants.{IndexTooLarge}
use Rattle.dv_update.specs.Apply.{is_id, others, with_id}
use Rattle.dv_update.proofs.Replacing.{has_name-others, no-id}

pub record IsName (name : List ℕ) : Type 0 where
  pub text : IsUtf8 name
  pub whole : has_zero name ≡ false

abbrev pub AreNames : List (List ℕ) → Type 0
AreNames path = AllByRecursion IsName path

-- `AreFields` of a list
abbrev pub AreValid : List Field → Type 0
AreValid [] = ⊤
AreValid (f ∷ fs) = IsName f.0 × (has_name f.0 fs ≡ false) × IsValue f.1 × AreValid fs

pub listed-fields : (fs : Fields) → AreFields fs → AreValid (list_of_fields fs)
listed-fields no_fields valid = tt
listed-fields (field name v fs) valid = (record { text = valid.0; whole = valid.1 }, valid.2, valid.3, listed-fields fs valid.4)

pub fields-valid : (fs : List Field) → AreFields (fields_of fs) → AreValid fs
fields-valid fs valid = subst AreValid (fields_again fs) (listed-fields (fields_of fs) valid)

pub valid-fields : (fs : List Field) → AreValid fs → AreFields (fields_of fs)
valid-fields [] valid = tt
valid-fields (f ∷ fs) valid = (valid.0.text, valid.0.whole, subst (λ (gs : List Field). has_name f.0 gs ≡ false) (sym (fields_again fs)) valid.1, valid.2, valid-fields fs valid.3)

-- ---- what is there

pub value_under-valid : (name : List ℕ) (fs : List Field) → AreValid fs → IfSome (value_under name fs) IsValue
value_under-valid name [] valid = tt
value_under-valid name (f ∷ fs) valid = either (λ c. IfSome c IsValue) (bytes_eq name f.0) (Some f.1) (value_under name fs) valid.2 (value_under-valid name fs valid.3)

slice_get-valid : (vs : List Tree) (place : ℕ) → AreValues vs → IfSome (slice_get vs place) IsValue
slice_get-valid [] place valid = tt
slice_get-valid (v ∷ vs) zero valid = valid.0
slice_get-valid (v ∷ vs) (suc place) valid = slice_get-valid vs place valid.1

abbrev pub IsThere : Slot → Type 0
IsThere (taken v) = IsValue v
IsThere s = ⊤

slot_of-valid : (c : Option Tree) → IfSome c IsValue → IsThere (slot_of c)
slot_of-valid None value = tt
slot_of-valid (Some v) value = value

element_slot-valid : (place : Option ℕ) (vs : List Tree) → AreValues vs → IsThere (element_slot place vs)
element_slot-valid None vs valid = tt
element_slot-valid (Some place) vs valid = slot_of-valid (slice_get vs place) (slice_get-valid vs place valid)

next_slot-valid : (name : List ℕ) (s : Slot) → IsThere s → IsThere (next_slot name s)
next_slot-valid name (taken (document fs)) value = slot_of-valid (value_under name (list_of_fields fs)) (value_under-valid name (list_of_fields fs) (listed-fields fs value))
next_slot-valid name (taken (array vs)) value = element_slot-valid (index_of name) (list_of_elements vs) (listed-elements vs value)
next_slot-valid name (taken v) value = tt
next_slot-valid name free value = tt
next_slot-valid name blocked value = tt

slot_behind-valid : (path : List (List ℕ)) (s : Slot) → IsThere s → IsThere (slot_behind path s)
slot_behind-valid [] s value = value
slot_behind-valid (name ∷ names) s value = slot_behind-valid names (next_slot name s) (next_slot-valid name s value)

pub slot-valid : (d : List Field) (path : List (List ℕ)) → AreValid d → IsThere (slot d path)
unfolding slot
slot-valid d path valid = slot_behind-valid path (taken (document (fields_of d))) (valid-fields d valid)

-- ---- a field with another value, or without one

changed-apart : (other : List ℕ) (b : Bool) (c : Option Tree) (f : Field) (fs changed : List Field) → (bytes_eq other f.0 || has_name other fs) ≡ false → has_name other changed ≡ false → has_name other (if b then field_with f.0 c ++ fs else f ∷ changed) ≡ false
changed-apart other true None f fs changed absent rest = (or_parts _ _ absent).1
changed-apart other true (Some v) f fs changed absent rest = absent
changed-apart other false c f fs changed absent rest = or_from _ _ (or_parts _ _ absent).0 rest

has_name-with_field : (other name : List ℕ) (c : Option Tree) (fs : List Field) → bytes_eq other name ≡ false → has_name other fs ≡ false → has_name other (with_field name c fs) ≡ false
has_name-with_field other name None [] apart absent = refl
has_name-with_field other name (Some v) [] apart absent = or_from _ _ apart refl
has_name-with_field other name c (f ∷ fs) apart absent = changed-apart other (bytes_eq name f.0) c f fs (with_field name c fs) absent (has_name-with_field other name c fs apart (or_parts _ _ absent).1)

changed-valid : (name : List ℕ) (b : Bool) (c : Option Tree) (f : Field) (fs : List Field) → bytes_eq name f.0 ≡ b → IfSome c IsValue → AreValid (f ∷ fs) → AreValid (with_field name c fs) → AreValid (if b then field_with f.0 c ++ fs else f ∷ with_field name c fs)
changed-valid name true None f fs is value valid rest = valid.3
changed-valid name true (Some v) f fs is value valid rest = (valid.0, valid.1, value, valid.3)
changed-valid name false c f fs is value valid rest = (valid.0, has_name-with_field f.0 name c fs (bytes_eq-symmetric f.0 name ∙ is) valid.1, valid.2, rest)

with_field-valid : (name : List ℕ) (c : Option Tree) (fs : List Field) → IsName name → IfSome c IsValue → AreValid fs → AreValid (with_field name c fs)
with_field-valid name None [] named value valid = tt
with_field-valid name (Some v) [] named value valid = (named, refl, value, tt)
with_field-valid name c (f ∷ fs) named value valid = changed-valid name (bytes_eq name f.0) c f fs refl value valid (with_field-valid name c fs named value valid.3)

-- ---- what is put

with_element-valid : (place : ℕ) (v : Tree) (vs : List Tree) → IsValue v → AreValues vs → AreValues (with_element place v vs)
with_element-valid zero v [] value valid = (value, tt)
with_element-valid zero v (w ∷ ws) value valid = (value, valid.1)
with_element-valid (suc place) v [] value valid = (tt, with_element-valid place v [] value tt)
with_element-valid (suc place) v (w ∷ ws) value valid = (valid.0, with_element-valid place v ws value valid.1)

mapped : {X Y : Type 0} (P : X → Type 0) (Q : Y → Type 0) (f : X → Y) → ((x : X) → P x → Q (f x)) → (r : Result X PathFault) → IfOk r P → IfOk (result_map f r) Q
mapped P Q f maps (Ok x) holds = maps x holds
mapped P Q f maps (Err e) holds = tt

module _ (change : Option Tree → Result Tree PathFault) (sound : (c : Option Tree) → IfSome c IsValue → IfOk (change c) IsValue) where
  put_field-valid : (name : List ℕ) (fs : List Field) → IsName name → AreValid fs → IfOk (put_field change name fs) AreValid
  put_field-valid name fs named valid =
      mapped IsValue AreValid (λ v. with_field name (Some v) fs) (λ v value. with_field-valid name (Some v) fs named value valid) (change (value_under name fs)) (sound (value_under name fs) (value_under-valid name fs valid))

  put_element-valid : (place : Option ℕ) (vs : List Tree) → AreValues vs → IfOk (put_element change place vs) AreValues
  put_element-valid None vs valid = tt
  put_element-valid (Some place) vs valid =
      let changed = result_map (λ v. with_element place v vs) (change (slice_get vs place)) in
      either (λ r. IfOk r AreValues) (nat_lt place (length vs) || nat_le place 100000) changed (Err IndexTooLarge)
      (mapped IsValue AreValues (λ v. with_element place v vs) (λ v value. with_element-valid place v vs value valid) (change (slice_get vs place)) (sound (slice_get vs place) (slice_get-valid vs place valid))) tt

put_behind-valid : (path : List (List ℕ)) (v : Tree) → AreNames path → IsValue v → (c : Option Tree) → IfSome c IsValue → IfOk (put_behind path v c) IsValue
put_behind-valid [] v named value c there = value
put_behind-valid (name ∷ names) v named value None there =
    mapped AreValid IsValue (λ fs. document (fields_of fs)) valid-fields (put_field (put_behind names v) name []) (put_field-valid (put_behind names v) (put_behind-valid names v named.1 value) name [] named.0 tt)
put_behind-valid (name ∷ names) v named value (Some (document fs)) there =
    mapped AreValid IsValue (λ fs. document (fields_of fs)) valid-fields (put_field (put_behind names v) name (list_of_fields fs))
    (put_field-valid (put_behind names v) (put_behind-valid names v named.1 value) name (list_of_fields fs) named.0 (listed-fields fs there))
put_behind-valid (name ∷ names) v named value (Some (array vs)) there =
    mapped AreValues IsValue (λ vs. array (elements_of vs)) valid-elements (put_element (put_behind names v) (index_of name) (list_of_elements vs))
    (put_element-valid (put_behind names v) (put_behind-valid names v named.1 value) (index_of name) (list_of_elements vs) (listed-elements vs there))
put_behind-valid (name ∷ names) v named value (Some w) there = tt

pub put-valid : (d : List Field) (path : List (List ℕ)) (v : Tree) → AreNames path → IsValue v → AreValid d → IfOk (put d path v) AreValid
unfolding put
put-valid d [] v named value valid = valid
put-valid d (name ∷ names) v named value valid = put_field-valid (put_behind names v) (put_behind-valid names v named.1 value) name d named.0 valid

-- ---- what is left

changed_at-valid : (change : Tree → Tree) → ((v : Tree) → IsValue v → IsValue (change v)) → (place : ℕ) (vs : List Tree) → AreValues vs → AreValues (changed_at place change vs)
changed_at-valid change sound place [] valid = tt
changed_at-valid change sound zero (v ∷ vs) valid = (sound v valid.0, valid.1)
changed_at-valid change sound (suc place) (v ∷ vs) valid = (valid.0, changed_at-valid change sound place vs valid.1)

or-null : (c : Option Tree) → IfSome c IsValue → IsValue (unwrap_or c null)
or-null None value = tt
or-null (Some v) value = value

module _ (left : Tree → Option Tree) (sound : (v : Tree) → IsValue v → IfSome (left v) IsValue) where
  left-valid : (c : Option Tree) → IfSome c IsValue → IfSome (option_and_then left c) IsValue
  left-valid None value = tt
  left-valid (Some v) value = sound v value

  remove_field-valid : (name : List ℕ) (fs : List Field) → IsName name → AreValid fs → AreValid (remove_field left name fs)
  remove_field-valid name fs named valid = with_field-valid name (option_and_then left (value_under name fs)) fs named (left-valid (value_under name fs) (value_under-valid name fs valid)) valid

  remove_element-valid : (place : Option ℕ) (vs : List Tree) → AreValues vs → AreValues (remove_element left place vs)
  remove_element-valid None vs valid = valid
  remove_element-valid (Some place) vs valid = changed_at-valid (λ v. unwrap_or (left v) null) (λ v value. or-null (left v) (sound v value)) place vs valid

left_behind-valid : (path : List (List ℕ)) → AreNames path → (v : Tree) → IsValue v → IfSome (left_behind path v) IsValue
left_behind-valid [] named v value = tt
left_behind-valid (name ∷ names) named (document fs) value =
    valid-fields (remove_field (left_behind names) name (list_of_fields fs)) (remove_field-valid (left_behind names) (left_behind-valid names named.1) name (list_of_fields fs) named.0 (listed-fields fs value))
left_behind-valid (name ∷ names) named (array vs) value =
    valid-elements (remove_element (left_behind names) (index_of name) (list_of_elements vs)) (remove_element-valid (left_behind names) (left_behind-valid names named.1) (index_of name) (list_of_elements vs) (listed-elements vs value))
left_behind-valid (name ∷ names) named v value = value

pub remove-valid : (d : List Field) (path : List (List ℕ)) → AreNames path → AreValid d → AreValid (remove d path)
unfolding remove
remove-valid d [] named valid = valid
remove-valid d (name ∷ names) named valid = remove_field-valid (left_behind names) (left_behind-valid names named.1) name d named.0 valid

-- ---- replacements

others-valid : (fs : List Field) → AreValid fs → AreValid (others fs)
others-valid [] valid = tt
others-valid (f ∷ fs) valid =
    let rest = others-valid fs valid.3 in
    either AreValid (not (is_id f)) (f ∷ others fs) (others fs) (valid.0, has_name-others f.0 fs valid.1, valid.2, rest) rest

id_ascii : (i : ℕ) → get_or (codes "_id") i 0 < 128
id_ascii zero = omega arith
id_ascii (suc zero) = omega arith
id_ascii (suc (suc zero)) = omega arith
id_ascii (suc (suc (suc i))) = omega arith

pub with_id-valid : (id : Option Tree) (fs : List Field) → IfSome id IsValue → AreValid fs → AreValid (with_id id (others fs))
with_id-valid None fs value valid = others-valid fs valid
with_id-valid (Some v) fs value valid = (record { text = IsUtf8-from_ascii (codes "_id") id_ascii; whole = refl }, no-id fs, value, others-valid fs valid)
