-- The bytes after a part that was read are no longer than all bytes.
use Rattle.std.proofs.Common.{◌≡◌, ℕ, suc, ◌+◌, ◌-◌, ◌≤◌, ◌==◌, if◌then◌else◌, Bool, true, false, List, [], ◌∷◌, length, take, drop, map, Option, Some, None, Result, Ok, Err, refl, ap, subst, arith}
use Rattle.std.specs.Prelude.{◌||◌, nat_lt, slice_index}
use Rattle.std.specs.Int.{w32, w64, from_le_bytes, cast_signed}
use Rattle.std.specs.Str.{is_utf8}
use Rattle.std.proofs.lemmas.Bool.{ltb-false, or_parts}
use Rattle.std.proofs.lemmas.List.{length-append, length-take, length-drop}
use Rattle.dv_value.specs.declared.kind.Kind.{Kind}
use Rattle.dv_value.specs.declared.kind.Kind.TheVariants as kinds
use Rattle.dv_value.specs.declared.fault.BsonFault.{BsonFault}
use Rattle.dv_value.specs.declared.fault.BsonFault.TheVariants.{BadLength, BadUtf8}
use Rattle.dv_value.specs.Tree.{Tree, int32, int64, string, document, array, object_id, date, timestamp, Field, fields_of, elements_of}
use Rattle.dv_bson.specs.Reading.{name_at, counted_at, count_at, text_at, Frame, frame_of, framed_at, frame_at, boolean_at, first_bytes, tagged_at, binary_at, value_at, kind_at, Inside}
use Rattle.dv_value.specs.Results.{◌>>=◌}
use Rattle.dv_bson.specs.Inner.Parts.{with_rest, front_kind_at, field_at}
use Rattle.dv_bson.proofs.Steps.{refused_not, given, ok_is}
use Rattle.dv_bson.proofs.Fields.{name_takes}

-- the bytes after what was read, if it was read, are no more than n
pub record Leaves (A : Type 0) (n : ℕ) (r : Result (A × List ℕ) BsonFault) : Type 0 where
  pub within : (x : A × List ℕ) → r ≡ Ok x → length x.1 ≤ n

Leaves-Ok : (A : Type 0) (n : ℕ) (x : A × List ℕ) → length x.1 ≤ n → Leaves A n (Ok x)
Leaves-Ok A n x le = record { within = λ y e. let same : x ≡ y = cc in let P : A × List ℕ → Type 0 = λ x. length x.1 ≤ n in subst P same le }

Leaves-Err : (A : Type 0) (n : ℕ) (e : BsonFault) → Leaves A n (Err e)
Leaves-Err A n e = record { within = λ x e. absurd cc }

Leaves-if : (A : Type 0) (n : ℕ) (b : Bool) (r s : Result (A × List ℕ) BsonFault) → Leaves A n r → Leaves A n s → Leaves A n (if b then r else s)
Leaves-if A n true r s h k = h
Leaves-if A n false r s h k = k

-- a part, and what is read after it
Leaves-then : (A B : Type 0) (n m : ℕ) (r : Result (A × List ℕ) BsonFault) (f : A × List ℕ → Result (B × List ℕ) BsonFault) → Leaves A n r → ((x : A × List ℕ) → length x.1 ≤ n → Leaves B m (f x)) → Leaves B m (r >>= f)
Leaves-then A B n m (Ok x) f h k = k x (h.within x refl)
Leaves-then A B n m (Err e) f h k = Leaves-Err B m e

pub name_leaves : (in_array : Bool) (seen : List Field) (bytes : List ℕ) → Leaves (List ℕ) (length bytes) (name_at in_array seen bytes)
name_leaves in_array seen bytes = record { within = λ name e. let taken = name_takes in_array seen bytes name e in omega (arith, ap length taken.0, length-append name.0 (0 ∷ name.1)) }

-- ---- values

counted_leaves : (o : Option ℕ) (bytes : List ℕ) → Leaves (List ℕ) (length bytes) (counted_at o bytes)
counted_leaves None bytes = Leaves-Err _ _ _
counted_leaves (Some n) bytes =
    let refused = Leaves-Err (List ℕ) (length bytes) in
    let read = Leaves-Ok (List ℕ) (length bytes) (take (n - 1) bytes, drop n bytes) (omega (arith, length-drop n bytes)) in
    let text = Leaves-if _ _ (is_utf8 (take (n - 1) bytes)) _ _ read (refused BadUtf8) in
    let closed = Leaves-if _ _ (slice_index bytes (n - 1) == 0) _ _ text (refused BadLength) in
    Leaves-if _ _ (nat_lt n 1 || nat_lt (length bytes) n) _ _ (refused BadLength) closed

text_value_leaves : (bytes : List ℕ) → Leaves Tree (length bytes) (text_at bytes >>= λ text. Ok (string text.0, text.1))
unfolding text_at
text_value_leaves bytes =
    Leaves-then _ _ _ _ (text_at bytes) _ (counted_leaves (count_at bytes) (drop 4 bytes)) (λ x le. Leaves-Ok _ _ _ (omega (arith, length-drop 4 bytes)))

made_leaves : {X : Type 0} (n : ℕ) (read : Result X BsonFault) (f : X → Tree) (rest : List ℕ) → length rest ≤ n → Leaves Tree n (read >>= λ x. Ok (f x, rest))
made_leaves n (Ok x) f rest le = Leaves-Ok _ n _ le
made_leaves n (Err e) f rest le = Leaves-Err _ n _

framed_leaves : {X : Type 0} (o : Option ℕ) (bytes : List ℕ) (read : Frame → Result X BsonFault) (f : X → Tree) → Leaves Tree (length bytes) (framed_at o bytes >>= λ frame. read frame >>= λ x. Ok (f x, frame.rest))
framed_leaves None bytes read f = Leaves-Err _ _ _
framed_leaves (Some n) bytes read f =
    let whole = made_leaves (length bytes) (read (frame_of n bytes)) f (drop n bytes) (omega (arith, length-drop n bytes)) in
    elim (nat_lt n 5 || nat_lt (length bytes) n) as (λ b. Leaves Tree (length bytes) ((if b then Err BadLength else Ok (frame_of n bytes)) >>= λ frame. read frame >>= λ x. Ok (f x, frame.rest))) [ true ↦ Leaves-Err _ _ _ | false ↦ whole ]

boolean_leaves : (bytes : List ℕ) → Leaves Tree (length bytes) (boolean_at bytes)
boolean_leaves [] = Leaves-Err _ _ _
boolean_leaves (b ∷ bytes) = Leaves-if _ _ (b == 0) _ _ (Leaves-Ok _ _ _ (omega arith)) (Leaves-if _ _ (b == 1) _ _ (Leaves-Ok _ _ _ (omega arith)) (Leaves-Err _ _ _))

first_leaves : (n : ℕ) (made : List ℕ → Tree) (bytes : List ℕ) → Leaves Tree (length bytes) (first_bytes n made bytes)
first_leaves n made bytes = Leaves-if _ _ (nat_lt (length bytes) n) _ _ (Leaves-Err _ _ _) (Leaves-Ok _ _ _ (omega (arith, length-drop n bytes)))

tagged_leaves : (n : ℕ) (bytes : List ℕ) → Leaves Tree (length bytes) (tagged_at n bytes)
tagged_leaves n [] = Leaves-Err _ _ _
tagged_leaves n (subtype ∷ bytes) = Leaves-if _ _ (nat_lt 2147483647 n || nat_lt (length bytes) n) _ _ (Leaves-Err _ _ _) (Leaves-Ok _ _ _ (omega (arith, length-drop n bytes)))

Leaves-more : (A : Type 0) (n m : ℕ) (r : Result (A × List ℕ) BsonFault) → n ≤ m → Leaves A n r → Leaves A m r
Leaves-more A n m r le h = record { within = λ x e. omega (arith, h.within x e) }

binary_leaves : (bytes : List ℕ) → Leaves Tree (length bytes) (binary_at bytes)
unfolding binary_at
binary_leaves bytes =
    let behind = Leaves-more Tree _ (length bytes) _ (omega (arith, length-drop 4 bytes)) (tagged_leaves (from_le_bytes w32 (take 4 bytes)) (drop 4 bytes)) in
    Leaves-if _ _ (nat_lt (length bytes) 4) _ _ (Leaves-Err _ _ _) behind

pub value_leaves : (inside : Inside) (kind : Kind) (at : ℕ) (bytes : List ℕ) → Leaves Tree (length bytes) (value_at inside kind at bytes)
unfolding value_at frame_at
value_leaves inside kinds.Text at bytes = text_value_leaves bytes
value_leaves inside kinds.Doc at bytes = framed_leaves (count_at bytes) bytes (λ frame. inside false (at + 4) frame.elements frame.last) (λ fields. document (fields_of fields))
value_leaves inside kinds.Array at bytes = framed_leaves (count_at bytes) bytes (λ frame. inside true (at + 4) frame.elements frame.last) (λ fields. array (elements_of (map (λ f. f.1) fields)))
value_leaves inside kinds.Bool at bytes = boolean_leaves bytes
value_leaves inside kinds.Binary at bytes = binary_leaves bytes
value_leaves inside kinds.ObjectId at bytes = first_leaves 12 object_id bytes
value_leaves inside kinds.Date at bytes = first_leaves 8 (λ front. date (cast_signed w64 (from_le_bytes w64 front))) bytes
value_leaves inside kinds.Null at bytes = Leaves-Ok _ _ _ (omega arith)
value_leaves inside kinds.Int32 at bytes = first_leaves 4 (λ front. int32 (cast_signed w32 (from_le_bytes w32 front))) bytes
value_leaves inside kinds.Timestamp at bytes = first_leaves 8 (λ front. timestamp (from_le_bytes w64 front)) bytes
value_leaves inside kinds.Int64 at bytes = first_leaves 8 (λ front. int64 (cast_signed w64 (from_le_bytes w64 front))) bytes
value_leaves inside kinds.MinKey at bytes = Leaves-Ok _ _ _ (omega arith)
value_leaves inside kinds.MaxKey at bytes = Leaves-Ok _ _ _ (omega arith)

-- ---- the element at the front

pub front_leaves : (bytes : List ℕ) (kind : Result Kind BsonFault) → Leaves Kind (length bytes) (kind >>= with_rest bytes)
front_leaves bytes (Ok kind) = Leaves-Ok _ _ _ (omega arith)
front_leaves bytes (Err e) = Leaves-Err _ _ _

pub field_leaves : (inside : Inside) (in_array : Bool) (at : ℕ) (seen : List Field) (b : ℕ) (bytes : List ℕ) → Leaves Field (length bytes) (field_at inside in_array at seen (b ∷ bytes))
unfolding field_at front_kind_at
field_leaves inside in_array at seen b bytes =
    Leaves-then Kind Field (length bytes) (length bytes) (kind_at b at >>= with_rest bytes) _ (front_leaves bytes (kind_at b at)) (λ front le.
    Leaves-then (List ℕ) Field (length front.1) (length bytes) (name_at in_array seen front.1) _ (name_leaves in_array seen front.1) (λ name le'.
    Leaves-then Tree Field (length name.1) (length bytes) (value_at inside front.0 (at + (suc (length bytes) - length name.1)) name.1) _ (value_leaves inside front.0 (at + (suc (length bytes) - length name.1)) name.1) (λ value le''.
    Leaves-Ok Field (length bytes) ((name.0, value.0), value.1) (omega arith))))

-- ---- what a call needs to know

pub behind_name : (at : ℕ) (bytes : List ℕ) (front : Kind × List ℕ) (in_array : Bool) (seen : List Field) (name : List ℕ × List ℕ) → front_kind_at at bytes ≡ Ok front → name_at in_array seen front.1 ≡ Ok name → length name.1 ≤ length bytes
unfolding front_kind_at
behind_name at [] front in_array seen name e e' = absurd cc
behind_name at (b ∷ bytes) front in_array seen name e e' = omega (arith, (front_leaves bytes (kind_at b at)).within front e, (name_leaves in_array seen front.1).within name e')

framed_within : (n : ℕ) (bytes : List ℕ) (frame : Frame) → framed_at (Some n) bytes ≡ Ok frame → length frame.elements + 5 ≤ length bytes
framed_within n bytes frame e =
    let tests = refused_not (nat_lt n 5 || nat_lt (length bytes) n) BadLength (Ok (frame_of n bytes)) frame e in
    let either = or_parts (nat_lt n 5) (nat_lt (length bytes) n) tests.0 in
    let elements : take (n - 5) (drop 4 bytes) ≡ frame.elements = ap (λ (frame : Frame). frame.elements) (ok_is (frame_of n bytes) frame tests.1) in
    omega (arith, ltb-false n 5 either.0, ltb-false (length bytes) n either.1, length-take (n - 5) (drop 4 bytes), length-drop 4 bytes, ap length elements)

pub frame_within : (bytes : List ℕ) (frame : Frame) → frame_at bytes ≡ Ok frame → length frame.elements + 5 ≤ length bytes
unfolding frame_at
frame_within bytes frame e = let counted = given (count_at bytes) (λ o. framed_at o bytes) BadLength frame refl e in framed_within counted.0 bytes frame counted.2
