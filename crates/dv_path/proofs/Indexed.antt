-- Two components that pick one place in arrays are one.
use Rattle.std.proofs.Common.{◌≡◌, ◌∙◌, ap, ap₂, sym, refl, ℕ, zero, suc, ◌+◌, ◌*◌, ◌-◌, ◌<◌, ◌≤◌, ◌==◌, ◌&&◌, ◌||◌, not, nat_le, Bool, true, false, List, [], ◌∷◌, length, slice_index, Some, None, ◌⊎◌, inl, inr, if◌then◌else◌, arith, tests}
use Rattle.std.specs.Char.{is_ascii_digit}
use Rattle.std.specs.List.{list_all}
use Rattle.std.proofs.lemmas.Bool.{and_parts}
use Rattle.std.proofs.lemmas.Bool.Decides.{nat_tests}
use Rattle.dv_candidates.specs.Path.{is_whole_number, number_behind, index_of}

is-digit : (b : ℕ) → is_ascii_digit b ≡ true → (48 ≤ b) × (b ≤ 57)
is-digit b h = (grind (arith, nat_tests, h), grind (arith, nat_tests, h))

-- equally many digits are the same number only if they are the same digits
same-length : (m n : ℕ) (xs ys : List ℕ) → list_all is_ascii_digit xs ≡ true → list_all is_ascii_digit ys ≡ true → length xs ≡ length ys → number_behind m xs ≡ number_behind n ys → (m ≡ n) × (xs ≡ ys)
same-length m n [] [] dx dy len e = (e, refl)
same-length m n [] (y ∷ ys) dx dy len e = absurd (omega arith)
same-length m n (x ∷ xs) [] dx dy len e = absurd (omega arith)
same-length m n (x ∷ xs) (y ∷ ys) dx dy len e =
    let px = and_parts (is_ascii_digit x) (list_all is_ascii_digit xs) dx in
    let py = and_parts (is_ascii_digit y) (list_all is_ascii_digit ys) dy in
    let rest = same-length (10 * m + (x - 48)) (10 * n + (y - 48)) xs ys px.1 py.1 (omega arith) e in
    let bx = is-digit x px.0 in
    let by = is-digit y py.0 in
    let sum : 10 * m + (x - 48) ≡ 10 * n + (y - 48) = rest.0 in
    let first : x ≡ y = omega arith in
    let before : m ≡ n = omega arith in
    (before, ap₂ (λ (z : ℕ) (zs : List ℕ). z ∷ zs) first rest.1)

le-cases : (m n : ℕ) → m ≤ suc n → (m ≡ suc n) ⊎ (m ≤ n)
le-cases zero n h = inr (omega arith)
le-cases (suc m) zero h = inl (omega arith)
le-cases (suc m) (suc n) h = elim (le-cases m n (omega arith)) [ inl same ↦ inl (ap suc same) | inr less ↦ inr (omega arith) ]

-- a number with more digits appended is no less than that number
no-less : (m n : ℕ) (xs ys : List ℕ) → list_all is_ascii_digit xs ≡ true → list_all is_ascii_digit ys ≡ true → length xs ≤ length ys → number_behind m xs ≡ number_behind n ys → n ≤ m
no-less m n xs [] dx dy le e =
    let len : length xs ≡ 0 = omega arith in
    omega (arith, (same-length m n xs [] dx dy len e).0)
no-less m n xs (y ∷ ys) dx dy le e = elim (le-cases (length xs) (length ys) le) [
  | inl same ↦ omega (arith, (same-length m n xs (y ∷ ys) dx dy same e).0)
  | inr less ↦ omega (arith, no-less m (10 * n + (y - 48)) xs ys dx (and_parts (is_ascii_digit y) (list_all is_ascii_digit ys) dy).1 less e)
]

-- the first of several digits is no 0
pub record IsWhole (name : List ℕ) : Type 0 where
  pub digits : list_all is_ascii_digit name ≡ true
  pub some : 1 ≤ length name
  pub first : (length name ≡ 1) ⊎ (slice_index name 0 ≡ 48 → ⊥)

or-parts : (a b : Bool) → (a || b) ≡ true → (a ≡ true) ⊎ (b ≡ true)
or-parts true b h = inl refl
or-parts false b h = inr h

whole : (name : List ℕ) → is_whole_number name ≡ true → IsWhole name
whole name h =
    let digits = list_all is_ascii_digit name in
    let one = and_parts (digits && nat_le 1 (length name) && nat_le (length name) 10) (length name == 1 || not (slice_index name 0 == 48)) h in
    let two = and_parts (digits && nat_le 1 (length name)) (nat_le (length name) 10) one.0 in
    let three = and_parts digits (nat_le 1 (length name)) two.0 in
    let le : 1 ≤ length name = grind (arith, nat_tests, three.1) in
    let first = or-parts (length name == 1) (not (slice_index name 0 == 48)) one.1 in
    record {
      digits = three.0;
      some = le;
      first = elim first [
        | inl single ↦ inl (grind (arith, tests, single))
        | inr other ↦ inr (λ zero. grind (arith, tests, other, zero))
      ];
    }

-- no whole number is written with more digits as well
longer : (x : ℕ) (xs : List ℕ) (y : ℕ) (ys : List ℕ) → IsWhole (x ∷ xs) → IsWhole (y ∷ ys) → length (x ∷ xs) ≤ length ys → number_behind 0 (x ∷ xs) ≡ number_behind 0 (y ∷ ys) → ⊥
longer x xs y ys wx wy less e =
    let dy = and_parts (is_ascii_digit y) (list_all is_ascii_digit ys) wy.digits in
    let by = is-digit y dy.0 in
    let none : 10 * 0 + (y - 48) ≤ 0 = no-less 0 (10 * 0 + (y - 48)) (x ∷ xs) ys wx.digits dy.1 less e in
    elim wy.first [
      | inl single ↦ (let l : length ys ≡ 0 = omega arith in omega arith)
      | inr other ↦ other (omega arith)
    ]

same-number : (x y : List ℕ) → IsWhole x → IsWhole y → number_behind 0 x ≡ number_behind 0 y → x ≡ y
same-number [] y wx wy e = absurd (omega (arith, wx.some))
same-number (x ∷ xs) [] wx wy e = absurd (omega (arith, wy.some))
same-number (x ∷ xs) (y ∷ ys) wx wy e = by (length xs) (length ys) refl refl
  where
    by : (m n : ℕ) → length xs ≡ m → length ys ≡ n → x ∷ xs ≡ y ∷ ys
    by m n hm hn = elim (compare m n) [
      | inl same ↦ (same-length 0 0 (x ∷ xs) (y ∷ ys) wx.digits wy.digits (omega arith) e).1
      | inr apart ↦ absurd (elim apart [
        | inl less ↦ longer x xs y ys wx wy (omega arith) e
        | inr more ↦ longer y ys x xs wy wx (omega arith) (sym e)
      ])
    ]
      where
        compare : (m n : ℕ) → (m ≡ n) ⊎ ((m < n) ⊎ (n < m))
        compare zero zero = inl refl
        compare zero (suc n) = inr (inl (omega arith))
        compare (suc m) zero = inr (inr (omega arith))
        compare (suc m) (suc n) = elim (compare m n) [ inl same ↦ inl (ap suc same) | inr apart ↦ inr (elim apart as (λ _. (suc m < suc n) ⊎ (suc n < suc m)) [ inl less ↦ inl (omega arith) | inr more ↦ inr (omega arith) ]) ]

pub same-place : (a b : List ℕ) (k : ℕ) → index_of a ≡ Some k → index_of b ≡ Some k → a ≡ b
unfolding index_of
same-place a b k ia ib = by (is_whole_number a) (is_whole_number b) refl refl ia ib
  where
    by : (wa wb : Bool) → is_whole_number a ≡ wa → is_whole_number b ≡ wb → (if wa then Some (number_behind 0 a) else None) ≡ Some k → (if wb then Some (number_behind 0 b) else None) ≡ Some k → a ≡ b
    by false wb ha hb e f = cc
    by true false ha hb e f = cc
    by true true ha hb e f = same-number a b (whole a ha) (whole b hb) (let x : number_behind 0 a ≡ k = cc in let y : number_behind 0 b ≡ k = cc in x ∙ sym y)
