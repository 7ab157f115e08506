-- How many bytes elements have at least.
use Rattle.std.proofs.Common.{◌≡◌, ap, ℕ, zero, suc, ◌+◌, ◌-◌, ◌/◌, ◌%◌, ◌^◌, ◌≤◌, ◌<◌, ◌⊎◌, inl, inr, min, List, [], ◌∷◌, ◌++◌, length, length-append, decimal, arith}
use Rattle.std.proofs.lemmas.Fmt.{decimal_by_steps}
use Rattle.dv_value.specs.Spelling.{payload}
use Rattle.dv_value.specs.Tree.{Tree, array, Elements, elements_of, list_of_elements}
use Rattle.dv_value.specs.Inner.TreeLaws.{elements_back}
use Rattle.dv_update.specs.Inner.Filling.{elements_least, least}
use Rattle.dv_update.proofs.AlikeDown.{length-item}
use Rattle.dv_value.specs.Inner.Spelled.{length-array}
use Rattle.dv_update.proofs.Putting.{items}

-- at least as many digits as the number has
record Digits (n : ℕ) (digits : List ℕ) : Type 0 where
  one : 1 ≤ length digits
  two : 10 ≤ n → 2 ≤ length digits
  three : 100 ≤ n → 3 ≤ length digits
  four : 1000 ≤ n → 4 ≤ length digits
  five : 10000 ≤ n → 5 ≤ length digits

digits : (n : ℕ) → n < 2 ^ 64 → Digits n (decimal n)
digits = decimal_by_steps Digits one-digit more
  where
    one-digit : (n : ℕ) → n < 10 → Digits n ((48 + n) ∷ [])
    one-digit n small = record {
      one = omega arith;
      two = λ h. absurd (omega arith);
      three = λ h. absurd (omega arith);
      four = λ h. absurd (omega arith);
      five = λ h. absurd (omega arith);
    }

    more : (n : ℕ) (ds : List ℕ) → 10 ≤ n → Digits (n / 10) ds → Digits n (ds ++ ((48 + n % 10) ∷ []))
    more n ds large d = record {
      one = omega (arith, longer);
      two = λ h. omega (arith, longer, d.one);
      three = λ h. omega (arith, longer, d.two (omega arith));
      four = λ h. omega (arith, longer, d.three (omega arith));
      five = λ h. omega (arith, longer, d.four (omega arith));
    }
      where
        longer : length (ds ++ ((48 + n % 10) ∷ [])) ≡ length ds + 1
        longer = length-append ds ((48 + n % 10) ∷ [])

-- `suc i - t` is one more than `i - t` if `i` is at least `t`, and otherwise the same
from-there : (t i : ℕ) → ((t ≤ i) × (suc i - t ≡ (i - t) + 1)) ⊎ ((i < t) × (suc i - t ≡ i - t))
from-there zero i = inl (omega arith, omega arith)
from-there (suc t) zero = inr (omega arith, omega arith)
from-there (suc t) (suc i) = elim (from-there t i) [ inl h ↦ inl (omega (arith, h.0), omega (arith, h.1)) | inr h ↦ inr (omega (arith, h.0), omega (arith, h.1)) ]

one-more : (i k : ℕ) → (10 ≤ i → 2 ≤ k) → (100 ≤ i → 3 ≤ k) → (1000 ≤ i → 4 ≤ k) → (10000 ≤ i → 5 ≤ k) → 1 ≤ k → elements_least (suc i) ≤ elements_least i + k + 2
one-more i k two three four five one = elim (from-there 10 i) [
  | inr a ↦ (elim (from-there 100 i) [
    | inl b ↦ absurd (omega (arith, a.0, b.0))
    | inr b ↦ (elim (from-there 1000 i) [
      | inl c ↦ absurd (omega (arith, a.0, c.0))
      | inr c ↦ (elim (from-there 10000 i) [ inl d ↦ absurd (omega (arith, a.0, d.0)) | inr d ↦ omega (arith, a.1, b.1, c.1, d.1, one) ])
    ])
  ])
  | inl a ↦ (elim (from-there 100 i) [
    | inr b ↦ (elim (from-there 1000 i) [
      | inl c ↦ absurd (omega (arith, b.0, c.0))
      | inr c ↦ (elim (from-there 10000 i) [ inl d ↦ absurd (omega (arith, b.0, d.0)) | inr d ↦ omega (arith, a.1, b.1, c.1, d.1, two a.0) ])
    ])
    | inl b ↦ (elim (from-there 1000 i) [
      | inr c ↦ (elim (from-there 10000 i) [ inl d ↦ absurd (omega (arith, c.0, d.0)) | inr d ↦ omega (arith, a.1, b.1, c.1, d.1, three b.0) ])
      | inl c ↦ (elim (from-there 10000 i) [ inl d ↦ omega (arith, a.1, b.1, c.1, d.1, five d.0) | inr d ↦ omega (arith, a.1, b.1, c.1, d.1, four c.0) ])
    ])
  ])
]

-- this many elements from a place on
elements-long : (n i : ℕ) (vs : List Tree) → n ≤ length vs → i + n ≤ 100001 → elements_least (i + n) ≤ items i vs + elements_least i
elements-long zero i vs some few = let same : i + 0 ≡ i = omega arith in rw same (omega arith)
elements-long (suc n) i [] some few = absurd (omega arith)
elements-long (suc n) i (v ∷ vs) some few =
    let d = digits i (omega arith) in
    let next : i + suc n ≡ suc i + n = omega arith in
    let step : elements_least (suc i) ≤ elements_least i + length (decimal i) + 2 = one-more i (length (decimal i)) d.two d.three d.four d.five d.one in
    let rest : elements_least (suc i + n) ≤ items (suc i) vs + elements_least (suc i) = elements-long n (suc i) vs (omega arith) (omega arith) in
    rw next (sums _ _ _ _ _ _ _ rest step (length-item i v (elements_of vs)))
  where
    sums : (all behind there here size digits whole : ℕ) → all ≤ behind + there → there ≤ here + digits + 2 → whole ≡ digits + size + 2 + behind → all ≤ whole + here
    sums all behind there here size digits whole h g e = omega arith

-- an array in which a place is filled
pub array-long : (place : ℕ) (vs : Elements) → place < length (list_of_elements vs) → least place ≤ length (payload (array vs))
array-long place vs filled =
    let ws = list_of_elements vs in
    let count : ℕ = min place 100000 + 1 in
    let same : 0 + count ≡ count = omega arith in
    let long : elements_least count ≤ items 0 ws + elements_least 0 = rw (← same) (elements-long count 0 ws (omega arith) (omega arith)) in
    let back : length (payload (array (elements_of ws))) ≡ length (payload (array vs)) = ap (λ us. length (payload (array us))) (elements_back vs) in
    sums (least place) (items 0 ws) _ _ long (length-array (elements_of ws)) back
  where
    sums : (all items whole same : ℕ) → all ≤ items + 0 → whole ≡ items + 5 → whole ≡ same → all ≤ same
    sums all items whole same h e f = omega arith
