-- A name that is ASCII up to its closing zero.
use Rattle.std.proofs.Common.{◌≡◌, ℕ, ◌+◌, ◌-◌, ◌==◌, ◌||◌, Bool, List, length, take, drop, Some, Ok, refl, sym, arith, inl, inr}
use Rattle.std.specs.Prelude.{nat_lt, slice_index}
use Rattle.std.specs.List.{position}
use Rattle.std.specs.Str.{IsUtf8}
use Rattle.std.proofs.lemmas.Bool.{cases_lt, ltb-false, lt-ltb, or_parts}
use Rattle.std.proofs.lemmas.List.{get_or-take, get_or_past, length-take-le}
use Rattle.std.proofs.lemmas.List.Sums.{position_or_len_is}
use Rattle.std.proofs.lemmas.List.Quantifiers.{position-Some}
use Rattle.std.proofs.lemmas.Str.{IsUtf8-from_ascii, is_utf8-from_IsUtf8}
use Rattle.dv_bson.specs.Inner.Parts.{any_name_at}
use Rattle.dv_bson.specs.Inner.CutLaws.{cut_some}

abbrev pub is_end : ℕ → Bool
is_end b = b == 0 || nat_lt 127 b

pub ascii_text : (bytes : List ℕ) (end : ℕ) → Some end ≡ position is_end bytes → IsUtf8 (take end bytes)
ascii_text bytes end found =
    let ends = position-Some is_end bytes end 0 (sym found) in
    let long = length-take-le end bytes (omega (arith, ends.0)) in
    IsUtf8-from_ascii _ (λ i. elim (cases_lt i end) [
      | inl below ↦ rw (get_or-take end bytes i 0 below) (omega (arith, ltb-false 127 (slice_index bytes i) (or_parts (slice_index bytes i == 0) (nat_lt 127 (slice_index bytes i)) (ends.2 i below)).1))
      | inr past ↦ rw (get_or_past (take end bytes) i 0 (omega (arith, long, past))) (omega arith)
    ])

zero_there : (bytes : List ℕ) (end : ℕ) → Some end ≡ position is_end bytes → slice_index bytes end ≡ 0 → Some end ≡ position (λ b. b == 0) bytes
zero_there bytes end found zero =
    let ends = position-Some is_end bytes end 0 (sym found) in
    let first = position_or_len_is (λ b. b == 0) bytes end 0 (omega (arith, ends.0)) (λ k below. (or_parts _ _ (ends.2 k below)).0) (λ _. rw zero refl) in
    rw (first, lt-ltb _ _ ends.0) refl

pub ascii_name : (bytes : List ℕ) (end : ℕ) → Some end ≡ position is_end bytes → slice_index bytes end ≡ 0 → any_name_at bytes ≡ Ok (take end bytes, take (length bytes - (end + 1)) (drop (end + 1) bytes))
unfolding any_name_at
ascii_name bytes end found zero =
    let cut = cut_some bytes end (zero_there bytes end found zero) in
    let valid = is_utf8-from_IsUtf8 _ (ascii_text bytes end found) in
    rw (← cut, valid) refl
