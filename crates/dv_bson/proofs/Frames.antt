-- Texts and the frames of documents: the bytes that are read are the encoding of the result, and an encoding is read again.
use Rattle.std.proofs.Common.{◌≡◌, ℕ, suc, ◌+◌, ◌-◌, ◌<◌, ◌≤◌, Bool, false, ltb, eqb, ◌||◌, List, [], ◌∷◌, ◌++◌, length, get_or, take, drop, Some, Result, Ok, refl, sym, ap, subst, ◌∙◌, append_assoc, arith}
use Rattle.std.specs.Int.{w32, to_le_bytes}
use Rattle.std.specs.Str.{IsUtf8, is_utf8}
use Rattle.std.proofs.lemmas.Bool.{ltb-false, le-ltb, eqb-true, or_parts}
use Rattle.std.proofs.lemmas.List.{take_at, drop_at, take-append-drop, length-append, length-take, length-drop, get_or-drop, get_or_at, drop-drop}
use Rattle.std.proofs.lemmas.Str.{IsUtf8-from_is_utf8, is_utf8-from_IsUtf8}
use Rattle.dv_value.specs.declared.fault.BsonFault.{BsonFault}
use Rattle.dv_value.specs.declared.fault.BsonFault.TheVariants.{BadLength, BadUtf8}
use Rattle.dv_value.specs.Tree.{Tree, Field}
use Rattle.dv_value.specs.Spelling.{IsBytes, framed, counted}
use Rattle.dv_bson.specs.Reading.{Inside, count_at, counted_at, text_at, Frame, frame_of, framed_at, frame_at}
use Rattle.dv_value.specs.Results.{◌>>=◌}
use Rattle.dv_value.specs.Inner.ByteLaws.{IsBytes-drop, IsBytes-take}
use Rattle.dv_bson.proofs.Steps.{Takes, refused_not, passed, given, ok_is, parted_at_zero}
use Rattle.dv_bson.proofs.Numbers.{count_takes, count_again, wide32}

-- a count before a text, and a zero after it
abbrev enclosed : ℕ → List ℕ → List ℕ
enclosed n text = to_le_bytes w32 n ++ (text ++ 0 ∷ [])

regrouped : (front text rest : List ℕ) → (front ++ (text ++ 0 ∷ [])) ++ rest ≡ front ++ (text ++ 0 ∷ rest)
regrouped front text rest = simp append_assoc

enclosed_takes : (bytes : List ℕ) (n k : ℕ) → IsBytes bytes → take 4 bytes ≡ to_le_bytes w32 n → k < length (drop 4 bytes) → get_or (drop 4 bytes) k 0 ≡ 0 → Takes bytes (enclosed n (take k (drop 4 bytes))) (drop (suc k) (drop 4 bytes))
enclosed_takes bytes n k fits count lt z =
    let parted = parted_at_zero (drop 4 bytes) k lt z in
    let whole : bytes ≡ take 4 bytes ++ (take k (drop 4 bytes) ++ 0 ∷ drop (suc k) (drop 4 bytes)) = sym (take-append-drop 4 bytes) ∙ ap (λ (t : List ℕ). take 4 bytes ++ t) parted in
    record {
      parts = whole ∙ ap (λ (f : List ℕ). f ++ (take k (drop 4 bytes) ++ 0 ∷ drop (suc k) (drop 4 bytes))) count ∙ sym (regrouped (to_le_bytes w32 n) (take k (drop 4 bytes)) (drop (suc k) (drop 4 bytes)));
      rest_fits = IsBytes-drop (suc k) (drop 4 bytes) (IsBytes-drop 4 bytes fits);
    }

-- ---- texts

counted_takes : (bytes : List ℕ) (n : ℕ) (x : List ℕ × List ℕ) → IsBytes bytes → count_at bytes ≡ Some n → counted_at (Some n) (drop 4 bytes) ≡ Ok x → Takes bytes (counted x.0) x.1 × IsUtf8 x.0
unfolding counted
counted_takes bytes n x fits count e =
    let b = drop 4 bytes in
    let k = n - 1 in
    let g1 = refused_not (ltb n 1 || ltb (length b) n) BadLength _ x e in
    let bounds = or_parts (ltb n 1) (ltb (length b) n) g1.0 in
    let low : 1 ≤ n = ltb-false _ _ bounds.0 in
    let high : n ≤ length b = ltb-false _ _ bounds.1 in
    let g2 = passed (eqb (get_or b k 0) 0) BadLength _ x g1.1 in
    let g3 = passed (is_utf8 (take k b)) BadUtf8 _ x g2.1 in
    let next : suc k ≡ n = omega arith in
    let len : n ≡ length (take k b) + 1 = omega (arith, length-take k b) in
    let taken : Takes bytes (enclosed n (take k b)) (drop (suc k) b) = enclosed_takes bytes n k fits (count_takes bytes n fits low count) (omega arith) (eqb-true _ _ g2.0) in
    let named : Takes bytes (counted (take k b)) (drop n b) = subst (λ (m : ℕ). Takes bytes (counted (take k b)) (drop m b)) next (subst (λ (m : ℕ). Takes bytes (enclosed m (take k b)) (drop (suc k) b)) len taken) in
    subst (λ (y : List ℕ × List ℕ). Takes bytes (counted y.0) y.1 × IsUtf8 y.0) (ok_is (take k b, drop n b) x g3.1) (named, IsUtf8-from_is_utf8 (take k b) g3.0)

pub text_takes : (bytes : List ℕ) (x : List ℕ × List ℕ) → IsBytes bytes → text_at bytes ≡ Ok x → Takes bytes (counted x.0) x.1 × IsUtf8 x.0
unfolding text_at
text_takes bytes x fits e =
    let n = given (count_at bytes) (λ o. counted_at o (drop 4 bytes)) BadLength x refl e in
    counted_takes bytes n.0 x fits n.1 n.2

-- a count of four bytes, the text after it, the byte that closes the text, and what follows
record IsEnclosed (n : ℕ) (text rest bytes : List ℕ) : Type 0 where
  count : n < 2147483648 → count_at bytes ≡ Some n
  long : length (drop 4 bytes) ≡ length text + suc (length rest)
  within : take (length text) (drop 4 bytes) ≡ text
  closing : get_or (drop 4 bytes) (length text) 0 ≡ 0
  behind : drop (suc (length text)) (drop 4 bytes) ≡ rest

enclosed_again : (n : ℕ) (text rest : List ℕ) → IsEnclosed n text rest (enclosed n text ++ rest)
enclosed_again n text rest =
    let front = to_le_bytes w32 n in
    let len : length (text ++ 0 ∷ []) ≡ suc (length text) = omega (arith, length-append text (0 ∷ [])) in
    rw (regrouped front text rest)
    (rw (drop_at front (text ++ 0 ∷ rest) 4 (wide32.len n)) record {
      count = λ lt. count_again n (text ++ 0 ∷ rest) lt;
      long = length-append text (0 ∷ rest);
      within = take_at text (0 ∷ rest) (length text) refl;
      closing = get_or_at text 0 rest 0 (length text) refl;
      behind = ap (drop (suc (length text))) (sym (append_assoc text (0 ∷ []) rest)) ∙ drop_at (text ++ 0 ∷ []) rest (suc (length text)) len;
    })

text_of : (bytes text rest : List ℕ) → IsEnclosed (length text + 1) text rest bytes → IsUtf8 text → length text + 1 < 2147483648 → text_at bytes ≡ Ok (text, rest)
unfolding text_at
text_of bytes text rest h utf8 lt =
    let less : length text + 1 - 1 ≡ length text = omega arith in
    let next : length text + 1 ≡ suc (length text) = omega arith in
    let low : ltb (length text + 1) 1 ≡ false = le-ltb _ _ (omega arith) in
    let high : ltb (length (drop 4 bytes)) (length text + 1) ≡ false = le-ltb _ _ (omega (arith, h.long)) in
    rw (h.count lt, low, high, less, h.closing, h.within, is_utf8-from_IsUtf8 text utf8, next, h.behind) refl

pub text_again : (text rest : List ℕ) → IsUtf8 text → length text + 1 < 2147483648 → text_at (counted text ++ rest) ≡ Ok (text, rest)
unfolding counted
text_again text rest utf8 lt = text_of (counted text ++ rest) text rest (enclosed_again (length text + 1) text rest) utf8 lt

-- ---- frames

frame_of_is : (bytes elements rest : List ℕ) → IsEnclosed (length elements + 5) elements rest bytes → frame_of (length elements + 5) bytes ≡ record { elements = elements; last = 0; rest = rest }
frame_of_is bytes elements rest h =
    let k = length elements in
    let less : k + 5 - 5 ≡ k = omega arith in
    let closing : get_or bytes (k + 5 - 1) 0 ≡ 0 = ap (λ (i : ℕ). get_or bytes i 0) (omega arith) ∙ sym (get_or-drop 4 bytes k 0) ∙ h.closing in
    let behind : drop (k + 5) bytes ≡ rest = ap (λ (i : ℕ). drop i bytes) (omega arith) ∙ sym (drop-drop (suc k) 4 bytes) ∙ h.behind in
    rw (less, h.within, closing, behind) refl

pub frame_of_again : (elements rest : List ℕ) → frame_of (length elements + 5) (framed elements ++ rest) ≡ record { elements = elements; last = 0; rest = rest }
unfolding framed
frame_of_again elements rest = frame_of_is (framed elements ++ rest) elements rest (enclosed_again (length elements + 5) elements rest)

pub framed_count : (elements rest : List ℕ) → length elements + 5 < 2147483648 → count_at (framed elements ++ rest) ≡ Some (length elements + 5)
unfolding framed
framed_count elements rest lt = (enclosed_again (length elements + 5) elements rest).count lt

frame_from : (bytes elements rest : List ℕ) → IsEnclosed (length elements + 5) elements rest bytes → length elements + 5 < 2147483648 → frame_at bytes ≡ Ok (record { elements = elements; last = 0; rest = rest })
unfolding frame_at
frame_from bytes elements rest h lt =
    let low : ltb (length elements + 5) 5 ≡ false = le-ltb _ _ (omega arith) in
    let high : ltb (length bytes) (length elements + 5) ≡ false = le-ltb _ _ (omega (arith, h.long, length-drop 4 bytes)) in
    rw (h.count lt, low, high) (ap Ok (frame_of_is bytes elements rest h))

pub frame_again : (elements rest : List ℕ) → length elements + 5 < 2147483648 → frame_at (framed elements ++ rest) ≡ Ok (record { elements = elements; last = 0; rest = rest })
unfolding framed
frame_again elements rest lt = frame_from (framed elements ++ rest) elements rest (enclosed_again (length elements + 5) elements rest) lt

pub frame_of_takes : (bytes : List ℕ) (n : ℕ) → IsBytes bytes → count_at bytes ≡ Some n → 5 ≤ n → n ≤ length bytes → (frame_of n bytes).last ≡ 0 → Takes bytes (framed (frame_of n bytes).elements) (frame_of n bytes).rest
unfolding framed
frame_of_takes bytes n fits count low high z =
    let b = drop 4 bytes in
    let k = n - 5 in
    let place : n - 1 ≡ 4 + k = omega arith in
    let closing : get_or b k 0 ≡ 0 = get_or-drop 4 bytes k 0 ∙ ap (λ (i : ℕ). get_or bytes i 0) (sym place) ∙ z in
    let len : n ≡ length (take k b) + 5 = omega (arith, length-take k b, length-drop 4 bytes) in
    let end : 4 + suc k ≡ n = omega arith in
    let rest : drop (suc k) b ≡ drop n bytes = drop-drop (suc k) 4 bytes ∙ ap (λ (i : ℕ). drop i bytes) end in
    let taken : Takes bytes (enclosed n (take k b)) (drop (suc k) b) = enclosed_takes bytes n k fits (count_takes bytes n fits (omega arith) count) (omega (arith, length-drop 4 bytes)) closing in
    subst (λ (r : List ℕ). Takes bytes (framed (take k b)) r) rest (subst (λ (m : ℕ). Takes bytes (enclosed m (take k b)) (drop (suc k) b)) len taken)

pub record TakesFrame (bytes : List ℕ) (frame : Frame) : Type 0 where
  pub elements_fit : IsBytes frame.elements
  pub taken : frame.last ≡ 0 → Takes bytes (framed frame.elements) frame.rest

pub frame_takes : (bytes : List ℕ) (frame : Frame) → IsBytes bytes → frame_at bytes ≡ Ok frame → TakesFrame bytes frame
unfolding frame_at
frame_takes bytes frame fits e =
    let n = given (count_at bytes) (λ o. framed_at o bytes) BadLength frame refl e in
    let g = refused_not (ltb n.0 5 || ltb (length bytes) n.0) BadLength _ frame n.2 in
    let bounds = or_parts (ltb n.0 5) (ltb (length bytes) n.0) g.0 in
    subst (λ (f : Frame). TakesFrame bytes f) (ok_is (frame_of n.0 bytes) frame g.1) (record {
      elements_fit = IsBytes-take (n.0 - 5) (drop 4 bytes) (IsBytes-drop 4 bytes fits);
      taken = λ z. frame_of_takes bytes n.0 fits n.1 (ltb-false _ _ bounds.0) (ltb-false _ _ bounds.1) z;
    })

-- ---- a value in a frame

-- the value that the fields inside a frame make, and the bytes after the frame
abbrev pub framed_value : Inside → Bool → ℕ → (List Field → Tree) → List ℕ → Result (Tree × List ℕ) BsonFault
framed_value inside in_array at made bytes = do
  frame ← frame_at bytes
  fields ← inside in_array (at + 4) frame.elements frame.last
  Ok (made fields, frame.rest)
