-- How much a batch holds.
use Rattle.std.proofs.Common.{◌≡◌, ◌≢◌, ℕ, zero, suc, ◌<◌, ◌≤◌, ◌&&◌, ◌||◌, ◌⊎◌, inl, inr, Bool, true, false, nat_le, List, [], ◌∷◌, take, length, cond, refl, ap, ◌∙◌, arith}
use Rattle.std.proofs.lemmas.Bool.Decides.{nat_tests}
use Rattle.std.proofs.lemmas.Bool.{lt-ltb}
use Rattle.std.proofs.lemmas.List.{length-take-le}
use Rattle.dv_value.specs.Tree.{Field}
use Rattle.dv_cursor.specs.Batch.{total_size, batch_limit, can_hold, longest_front, batch}
use Rattle.dv_cursor.specs.Inner.Runs.{IsWithinBatch}
use Rattle.dv_cursor.proofs.Batches.{none_held}

abbrev Rows : Type 0
Rows = List (List Field)

-- the longest prefix can be held
longest_is_held : (count n : ℕ) (rows : Rows) → can_hold count (longest_front count n rows) ≡ true
longest_is_held count zero rows = none_held count
longest_is_held count (suc n) rows = at (can_hold count (take (suc n) rows)) refl (longest_is_held count n rows)
  where
    at : (b : Bool) → can_hold count (take (suc n) rows) ≡ b → can_hold count (longest_front count n rows) ≡ true → can_hold count (cond b (take (suc n) rows) (longest_front count n rows)) ≡ true
    at true held shorter = held
    at false held shorter = shorter

within : (n total count : ℕ) → (nat_le n count && (nat_le n 1 || nat_le total batch_limit)) ≡ true → (n ≤ count) × ((n ≤ 1) ⊎ (total ≤ batch_limit))
within zero total count held = (omega arith, inl (omega arith))
within (suc zero) total count held = (grind (arith, nat_tests), inl (omega arith))
within (suc (suc n)) total count held = (grind (arith, nat_tests), inr (grind (arith, nat_tests)))

pub batch_within : (count : ℕ) (rows : Rows) → IsWithinBatch count (batch count rows)
unfolding batch
batch_within count rows = let b = longest_front count (length rows) rows in within (length b) (total_size b) count (longest_is_held count (length rows) rows)

-- and no longer one can
longer_is_not : (count n k : ℕ) (rows : Rows) → k ≤ length rows → length (longest_front count k rows) < n → n ≤ k → can_hold count (take n rows) ≡ false
longer_is_not count n zero rows there longer le = absurd (omega arith)
longer_is_not count n (suc k) rows there longer le = at (can_hold count (take (suc k) rows)) refl longer (λ less below. longer_is_not count n k rows (omega arith) less below)
  where
    same_or_less : (m l : ℕ) → m ≤ suc l → (m ≡ suc l) ⊎ (m ≤ l)
    same_or_less m l up = grind arith

    at : (b : Bool) → can_hold count (take (suc k) rows) ≡ b → length (cond b (take (suc k) rows) (longest_front count k rows)) < n → (length (longest_front count k rows) < n → n ≤ k → can_hold count (take n rows) ≡ false) → can_hold count (take n rows) ≡ false
    at true held less later = absurd (omega (arith, length-take-le (suc k) rows there))
    at false held less later = elim (same_or_less n k le) [ inl same ↦ ap (λ (m : ℕ). can_hold count (take m rows)) same ∙ held | inr below ↦ later less below ]

pub batch_longest : (count n : ℕ) (rows : Rows) → length (batch count rows) < n → n ≤ length rows → can_hold count (take n rows) ≡ false
unfolding batch
batch_longest count n rows longer there = longer_is_not count n (length rows) rows (omega arith) longer there

-- if any row can be held, one is
pub batch_some : (count : ℕ) (row : List Field) (rows : Rows) → 0 < count → batch count (row ∷ rows) ≢ []
batch_some count row rows some none =
    let held : can_hold count (row ∷ []) ≡ true = rw (lt-ltb 0 count some) refl in
    let not : can_hold count (row ∷ []) ≡ false = batch_longest count 1 (row ∷ rows) (omega (arith, ap (λ (rs : Rows). length rs) none)) (omega arith) in
    cc
