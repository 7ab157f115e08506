-- Where bytes are cut at the first zero, and bytes that are no text.
use Rattle.std.proofs.Common.{◌≡◌, ℕ, suc, ◌+◌, ◌-◌, ◌==◌, if◌then◌else◌, Bool, true, false, cond, not, ltb, List, [], ◌∷◌, length, take, drop, Option, Some, None, refl, sym, ap, ◌∙◌, add-one, arith, inl, inr}
use Rattle.std.specs.Option.{option_map}
use Rattle.std.specs.List.{position, position_or_len}
use Rattle.std.specs.Str.{IsUtf8, is_utf8}
use Rattle.std.proofs.lemmas.Bool.{cases_lt, lt-ltb, le-ltb}
use Rattle.std.proofs.lemmas.List.{take_all, length-drop}
use Rattle.std.proofs.lemmas.Str.{IsUtf8-from_is_utf8}
use Rattle.dv_bson.specs.Reading.{cut_at_zero, onto_name}

-- where the first zero is: at the front byte, or at a place in the bytes after it
abbrev place_behind : Bool → ℕ → ℕ
place_behind here k = cond (not here) (1 + k) 0

abbrev cut_at : List ℕ → ℕ → Option (List ℕ × List ℕ)
cut_at bytes k = option_map (λ i. (take i bytes, drop (suc i) bytes)) (cond (ltb k (length bytes)) (Some k) None)

cut_behind : (b : ℕ) (bytes : List ℕ) (k : ℕ) → onto_name b (cut_at bytes k) ≡ cut_at (b ∷ bytes) (suc k)
cut_behind b bytes k =
    elim (cases_lt k (length bytes)) [
      | inl lt ↦ let here : ltb k (length bytes) ≡ true = lt-ltb _ _ lt in let above : ltb (suc k) (suc (length bytes)) ≡ true = lt-ltb _ _ (omega arith) in rw (here, above) refl
      | inr le ↦ let here : ltb k (length bytes) ≡ false = le-ltb _ _ le in let above : ltb (suc k) (suc (length bytes)) ≡ false = le-ltb _ _ (omega arith) in rw (here, above) refl
    ]

cut_by_place : (bytes : List ℕ) → cut_at_zero bytes ≡ cut_at bytes (position_or_len (λ b. b == 0) bytes)
unfolding cut_at_zero
cut_by_place [] = refl
cut_by_place (b ∷ bytes) =
    let k = position_or_len (λ b. b == 0) bytes in
    let one : suc k ≡ 1 + k = omega arith in
    let front : ltb 0 (suc (length bytes)) ≡ true = lt-ltb _ _ (omega arith) in
    elim (b == 0) as (λ here. (if here then Some ([], bytes) else onto_name b (cut_at_zero bytes)) ≡ cut_at (b ∷ bytes) (place_behind here k)) [
      | true ↦ rw front refl
      | false ↦ ap (onto_name b) (cut_by_place bytes) ∙ cut_behind b bytes k ∙ ap (cut_at (b ∷ bytes)) one
    ]

pub cut_none : (bytes : List ℕ) → None ≡ position (λ b. b == 0) bytes → None ≡ cut_at_zero bytes
cut_none bytes e = ap (option_map (λ i. (take i bytes, drop (suc i) bytes))) e ∙ sym (cut_by_place bytes)

pub cut_some : (bytes : List ℕ) (i : ℕ) → Some i ≡ position (λ b. b == 0) bytes → Some (take i bytes, take (length bytes - (i + 1)) (drop (i + 1) bytes)) ≡ cut_at_zero bytes
cut_some bytes i e =
    let whole : take (length bytes - suc i) (drop (suc i) bytes) ≡ drop (suc i) bytes = take_all (length bytes - suc i) (drop (suc i) bytes) (omega (arith, length-drop (suc i) bytes)) in
    rw (add-one, whole) (ap (option_map (λ i. (take i bytes, drop (suc i) bytes))) e ∙ sym (cut_by_place bytes))

no_text : (b : Bool) (bytes : List ℕ) → is_utf8 bytes ≡ b → (IsUtf8 bytes → ⊥) → b ≡ false
no_text true bytes e refuted = absurd (refuted (IsUtf8-from_is_utf8 bytes e))
no_text false bytes e refuted = refl

pub is_utf8-false : (bytes : List ℕ) → (IsUtf8 bytes → ⊥) → is_utf8 bytes ≡ false
is_utf8-false bytes refuted = no_text (is_utf8 bytes) bytes refl refuted
