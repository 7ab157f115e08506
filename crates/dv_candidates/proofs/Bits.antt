-- The bits of a mask, as a set of places.
use Rattle.std.proofs.Common.{◌≡◌, ℕ, zero, suc, ◌+◌, ◌*◌, ◌/◌, ◌%◌, ◌^◌, ◌<◌, ◌≤◌, ◌==◌, ◌≢◌, ◌&&◌, ◌||◌, nat_lt, nat_eq, max, Bool, true, false, not, bit_and, bit_or, List, [], ◌∷◌, length, take, get_or, refl, ap, sym, ◌∙◌, arith, tests, add-one, w64}
use Rattle.std.proofs.Math.Bool.{or-false, or-true}
use Rattle.std.proofs.lemmas.Nat.{one_shl, pow_pos}
use Rattle.std.proofs.lemmas.Nat.Bits.{and_pow, bit_at_or, bit_at_lowest, bit_at-suc, bit_at-zero, bit_at-lt, bit_at_set_same, bit_at_set_other}
use Rattle.std.specs.Int.{bit_at}
use Rattle.dv_candidates.specs.declared.places.Places.{Places}
use Rattle.dv_candidates.specs.Inner.Places.{has, follows, passes_at}

-- the test of a bit, as code makes it
pub tested : (mask place : ℕ) → place < 64 → not (nat_eq (bit_and mask (1 * 2 ^ place % 18446744073709551616)) 0) ≡ has (record { mask = mask }) place
unfolding has
tested mask place within = grind (arith, tests, one_shl place 64 within, and_pow mask place, pow_pos place)

pub too_far : (s : Places) (place : ℕ) → 64 ≤ place → has s place ≡ false
unfolding has
too_far s place far = grind (arith, tests)

pub none : (place : ℕ) → has (record { mask = 0 }) place ≡ false
unfolding has
none place = grind (arith, tests, bit_at-zero place)

max_bits : (a b : ℕ) → a < 2 → b < 2 → max a b == 1 ≡ (a == 1 || b == 1)
max_bits a b p q = grind (arith, tests)

and_or : (a b c : Bool) → (a && (b || c)) ≡ ((a && b) || (a && c))
and_or true b c = refl
and_or false b c = refl

pub joined : (a b place : ℕ) → has (record { mask = bit_or a b }) place ≡ (has (record { mask = a }) place || has (record { mask = b }) place)
unfolding has
joined a b place =
    ap (λ n. nat_lt place 64 && n == 1) (bit_at_or a b place)
    ∙ ap (λ t. nat_lt place 64 && t) (max_bits (bit_at a place) (bit_at b place) (bit_at-lt a place) (bit_at-lt b place))
    ∙ and_or (nat_lt place 64) (bit_at a place == 1) (bit_at b place == 1)

-- a bit that is set is a place
pub some : (mask place : ℕ) → place < 64 → bit_at mask place ≡ 1 → has (record { mask = mask }) place ≡ true
unfolding has
some mask place within set = grind (arith, tests)

doubled : (mask place : ℕ) → bit_at (mask * 2) (suc place) ≡ bit_at mask place
doubled mask place = bit_at-suc (mask * 2) place ∙ ap (λ n. bit_at n place) (omega arith)

whole_double : (mask : ℕ) → mask / 9223372036854775808 ≡ 0 → mask * 2 % 18446744073709551616 ≡ mask * 2
whole_double mask small = omega arith

no_last : (mask : ℕ) → mask / 9223372036854775808 ≡ 0 → bit_at mask 63 ≡ 0
no_last mask small = rw small refl

moved_within : (mask place : ℕ) → mask / 9223372036854775808 ≡ 0 → (nat_lt (suc place) 64 && bit_at (mask * 2) (suc place) == 1) ≡ (nat_lt place 64 && bit_at mask place == 1)
moved_within mask place small = grind (arith, tests, doubled mask place, no_last mask small)

-- a mask moved up by one
pub moved : (mask place : ℕ) → mask / 9223372036854775808 ≡ 0 → has (record { mask = mask * 2 % 18446744073709551616 }) place ≡ follows (has (record { mask = mask })) place
unfolding has
moved mask zero small = grind (arith, tests, bit_at_lowest (mask * 2 % 18446744073709551616))
moved mask (suc place) small = ap (λ n. nat_lt (suc place) 64 && bit_at n (suc place) == 1) (whole_double mask small) ∙ moved_within mask place small

added_as : (mask place other : ℕ) (same : Bool) → (other == place) ≡ same → place < 64 → has (record { mask = bit_or mask (1 * 2 ^ place % 18446744073709551616) }) other ≡ (has (record { mask = mask }) other || same)
unfolding has
added_as mask place other true e within =
    let here : other ≡ place = grind (arith, tests) in
    let near : nat_lt other 64 ≡ true = grind (arith, tests) in
    let set : bit_at (bit_or mask (1 * 2 ^ place % 18446744073709551616)) other ≡ 1 = rw here (bit_at_set_same w64 mask place within) in
    rw (set, near) (sym (or-true _))
added_as mask place other false e within =
    let apart : other ≢ place = grind (arith, tests) in
    rw (bit_at_set_other w64 mask place within other apart) (sym (or-false _))

-- a place put into a mask
pub added : (mask place other : ℕ) → place < 64 → has (record { mask = bit_or mask (1 * 2 ^ place % 18446744073709551616) }) other ≡ (has (record { mask = mask }) other || other == place)
added mask place other within = added_as mask place other (other == place) refl within

-- the places of one more component
pub passes_at-more : (test : List ℕ → Bool) (names : List (List ℕ)) (i place : ℕ) (name : List ℕ) → i < length names → name ≡ get_or names i name → passes_at test (take (i + 1) names) place ≡ (passes_at test (take i names) place || (place == i && test name))
passes_at-more test [] i place name h is = absurd (omega arith)
passes_at-more test (n ∷ names) zero zero name h is = ap test (sym is)
passes_at-more test (n ∷ names) zero (suc place) name h is = grind (arith, tests)
passes_at-more test (n ∷ names) (suc i) zero name h is =
    let apart : (0 == suc i) ≡ false = grind (arith, tests) in
    rw (add-one, apart) (sym (or-false (test n)))
passes_at-more test (n ∷ names) (suc i) (suc place) name h is =
    let both : (suc place == suc i) ≡ (place == i) = grind (arith, tests) in
    let rest = rw add-one at (passes_at-more test names i place name (omega arith) is) in
    rw (add-one, both) rest

pub taken_in : (same inside before passes : Bool) → (same ≡ true → inside ≡ true) → passes ≡ true → ((inside && before) || same) ≡ (inside && (before || (same && passes)))
taken_in true true true true h k = refl
taken_in true true false true h k = refl
taken_in true false before true h k = absurd (let e = h refl in cc)
taken_in false true true true h k = refl
taken_in false true false true h k = refl
taken_in false false before true h k = refl
taken_in same inside before false h k = absurd cc

pub left_out : (same inside before passes : Bool) → (same ≡ true → (inside && passes) ≡ false) → (inside && before) ≡ (inside && (before || (same && passes)))
left_out true true true passes h = refl
left_out true true false passes h = sym (h refl)
left_out true false before passes h = refl
left_out false true true passes h = refl
left_out false true false passes h = refl
left_out false false before passes h = refl
