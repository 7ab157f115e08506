-- A whole document: the bytes that are read are the encoding of the result, and an encoding is read again.
use Rattle.std.proofs.Common.{◌≡◌, ℕ, suc, ◌+◌, ◌-◌, ◌<◌, ◌≤◌, ◌↔◌, max, false, ltb, List, [], ◌++◌, length, take, drop, Some, None, Result, Ok, Err, refl, sym, ap, ap₂, subst, ◌∙◌, arith}
use Rattle.std.proofs.lemmas.Bool.{ltb-false, le-ltb}
use Rattle.std.proofs.lemmas.List.{take_at, length-append, length-take, length-drop, take-append-drop}
use Rattle.dv_value.specs.declared.fault.BsonFault.{BsonFault}
use Rattle.dv_value.specs.declared.fault.BsonFault.TheVariants.{BadLength, Truncated, TooLarge}
use Rattle.dv_value.specs.Tree.{Field, fields_of}
use Rattle.dv_value.specs.Inner.Spelled.{length-framed}
use Rattle.dv_value.specs.Spelling.{framed, payload, fields_spelling, elements_spelling, fields_levels, spelling, IsBytes, Spells, Fits}
use Rattle.dv_bson.specs.Reading.{count_at, Frame, frame_of, body_at, outermost_of, document_at, fault_of, first_fault}
use Rattle.dv_value.specs.Results.{◌>>=◌}
use Rattle.dv_value.specs.Inner.ByteLaws.{IsBytes-drop, IsBytes-take}
use Rattle.dv_bson.proofs.Steps.{bind_ok, bind_at, refused_not, given, ok_is, Takes}
use Rattle.dv_bson.proofs.Frames.{framed_count, frame_of_again, frame_of_takes}
use Rattle.dv_bson.proofs.Fields.{AreFields-from_read, AreRead-fields}
use Rattle.dv_bson.proofs.Taken.{TakesInside, body_sound}
use Rattle.dv_bson.proofs.Again.{body_complete}

-- ---- the bytes that are read are the encoding of the document

-- the first n bytes are the encoding of the document
abbrev TakesDocument : List ℕ → List Field × ℕ → Type 0
TakesDocument bytes x = (x.1 ≤ length bytes) × Spells x.0 (take x.1 bytes) × Fits x.0

framed_document : (bytes elements rest : List ℕ) (last : ℕ) (d : List Field) (n : ℕ) → n ≤ length bytes → n ≤ 16777216 → Takes bytes (framed elements) rest → length elements + 5 ≡ n → TakesInside 100 false elements last d → TakesDocument bytes (d, n)
unfolding payload fields_spelling elements_spelling
framed_document bytes elements rest last d n within small taken len inside =
    let size : length (framed elements) ≡ n = length-framed elements ∙ len in
    let spelled : framed elements ≡ spelling d = ap framed inside.whole in
    let front : take n bytes ≡ framed elements = ap (take n) taken.parts ∙ take_at (framed elements) rest n size in (
      within,
      record { valid = AreFields-from_read [] d inside.read; whole = front ∙ spelled; within = omega (arith, length-take n bytes) },
      record { size = subst (λ (m : ℕ). m ≤ 16777216) (sym size ∙ ap length spelled) small; depth = inside.depth },
    )

pub document_takes : (bytes : List ℕ) (d : List Field) (n : ℕ) → IsBytes bytes → document_at bytes ≡ Ok (d, n) → (n ≤ length bytes) × Spells d (take n bytes) × Fits d
unfolding document_at
document_takes bytes d n fits e =
    let a = given (count_at bytes) (λ o. outermost_of o bytes) Truncated (d, n) refl e in
    let m = a.0 in
    let g1 = refused_not (ltb m 5) BadLength _ (d, n) a.2 in
    let g2 = refused_not (ltb 16777216 m) TooLarge _ (d, n) g1.1 in
    let g3 = refused_not (ltb (length bytes) m) Truncated _ (d, n) g2.1 in
    let low : 5 ≤ m = ltb-false _ _ g1.0 in
    let small : m ≤ 16777216 = ltb-false _ _ g2.0 in
    let within : m ≤ length bytes = ltb-false _ _ g3.0 in
    let elements = (frame_of m bytes).elements in
    let last = (frame_of m bytes).last in
    let b = bind_ok (body_at 100 false 4 elements last) (λ fields. Ok (fields, m)) (d, n) g3.1 in
    let inside = body_sound 100 false 4 elements last b.0 (IsBytes-take (m - 5) (drop 4 bytes) (IsBytes-drop 4 bytes fits)) b.1 in
    let taken = frame_of_takes bytes m fits a.1 low within inside.closed in
    let len : length elements + 5 ≡ m = omega (arith, length-take (m - 5) (drop 4 bytes), length-drop 4 bytes) in
    subst (λ (x : List Field × ℕ). TakesDocument bytes x) (ok_is (b.0, m) (d, n) b.2)
    (framed_document bytes elements (frame_of m bytes).rest last b.0 m within small taken len inside)

-- ---- an encoding is read again

outermost_again : (d : List Field) (elements rest : List ℕ) → length elements + 5 ≤ 16777216 → body_at 100 false 4 elements 0 ≡ Ok d → document_at (framed elements ++ rest) ≡ Ok (d, length elements + 5)
unfolding document_at
outermost_again d elements rest small e =
    let n = length elements + 5 in
    let bytes = framed elements ++ rest in
    let low : ltb n 5 ≡ false = le-ltb _ _ (omega arith) in
    let high : ltb 16777216 n ≡ false = le-ltb _ _ small in
    let within : ltb (length bytes) n ≡ false = le-ltb _ _ (omega (arith, length-append (framed elements) rest, length-framed elements)) in
    ap (λ o. outermost_of o bytes) (framed_count elements rest (omega arith)) ∙ rw (low, high, within)
    (ap (λ (f : Frame). body_at 100 false 4 f.elements f.last >>= λ fields. Ok (fields, n)) (frame_of_again elements rest)
    ∙ bind_at (body_at 100 false 4 elements 0) (λ fields. Ok (fields, n)) d (Ok (d, n)) e refl)

pub document_again : (d : List Field) (spelled rest : List ℕ) → Spells d spelled → Fits d → document_at (spelled ++ rest) ≡ Ok (d, length spelled)
unfolding payload fields_spelling elements_spelling
document_again d spelled rest spells fits =
    let elements = fields_spelling (fields_of d) in
    let len : length elements + 5 ≡ length spelled = sym (ap length spells.whole ∙ length-framed elements) in
    let size : length elements + 5 ≤ 16777216 = subst (λ (n : ℕ). n ≤ 16777216) (length-framed elements) fits.size in
    let read : body_at 100 false 4 elements 0 ≡ Ok d = body_complete 100 false 4 d (AreRead-fields d spells.valid) fits.depth (omega arith) in
    ap (λ (s : List ℕ). document_at (s ++ rest)) spells.whole ∙ outermost_again d elements rest size read ∙ ap (λ (n : ℕ). Ok (d, n)) len

-- ---- the laws

framed_once : (a b x y : List ℕ) → length a + 5 < 2147483648 → length b + 5 < 2147483648 → framed a ++ x ≡ framed b ++ y → a ≡ b
framed_once a b x y small_a small_b same =
    let counts : Some (length a + 5) ≡ Some (length b + 5) = sym (framed_count a x small_a) ∙ ap count_at same ∙ framed_count b y small_b in
    let n : length a + 5 ≡ length b + 5 = cc in
    ap (λ (f : Frame). f.elements) (sym (frame_of_again a x) ∙ ap₂ frame_of n same ∙ frame_of_again b y)

-- how long the fields in an encoding are
elements_small : (d : List Field) (a : List ℕ) → Spells d a → length (fields_spelling (fields_of d)) + 5 < 2147483648
unfolding payload fields_spelling elements_spelling
elements_small d a spells = omega (arith, spells.within, ap length spells.whole, length-framed (fields_spelling (fields_of d)))

pub spelled_once : (d e : List Field) (a b x y : List ℕ) → Spells d a → Spells e b → a ++ x ≡ b ++ y → (a ≡ b) × (d ≡ e)
unfolding payload fields_spelling elements_spelling
spelled_once d e a b x y spells_d spells_e same =
    let small_d = elements_small d a spells_d in
    let small_e = elements_small e b spells_e in
    let k = suc (max (fields_levels (fields_of d)) (fields_levels (fields_of e))) in
    let framed_same : framed (fields_spelling (fields_of d)) ++ x ≡ framed (fields_spelling (fields_of e)) ++ y = ap (λ (s : List ℕ). s ++ x) (sym spells_d.whole) ∙ same ∙ ap (λ (s : List ℕ). s ++ y) spells_e.whole in
    let inner = framed_once (fields_spelling (fields_of d)) (fields_spelling (fields_of e)) x y small_d small_e framed_same in
    let read_d = body_complete k false 4 d (AreRead-fields d spells_d.valid) (omega arith) (omega arith) in
    let read_e = body_complete k false 4 e (AreRead-fields e spells_e.valid) (omega arith) (omega arith) in
    (spells_d.whole ∙ ap framed inner ∙ sym spells_e.whole, ok_is d e (sym read_d ∙ ap (λ (s : List ℕ). body_at k false 4 s 0) inner ∙ read_e))

fault_free : {A : Type 0} (r : Result A BsonFault) → fault_of r ≡ None → (x : A) × (r ≡ Ok x)
fault_free (Ok x) e = (x, refl)
fault_free (Err f) e = absurd cc

pub no_fault_where_spelled : (bytes : List ℕ) → IsBytes bytes → (first_fault bytes ≡ None) ↔ ((d : List Field) × (n : ℕ) × (n ≤ length bytes) × Spells d (take n bytes) × Fits d)
unfolding first_fault
no_fault_where_spelled bytes fits = (
  λ e.
      let x = fault_free (document_at bytes) e in
      let t = document_takes bytes x.0.0 x.0.1 fits x.1 in
      (x.0.0, x.0.1, t.0, t.1, t.2),
  λ s. ap (λ (b : List ℕ). fault_of (document_at b)) (sym (take-append-drop s.1 bytes)) ∙ ap fault_of (document_again s.0 (take s.1 bytes) (drop s.1 bytes) s.3 s.4),
)
