-- Positions have the order of their first parts' codes, if these differ. Parts that are determined by their codes have the order of
-- these.
use Rattle.std.specs.Prelude.{◌≡◌, ◌⊎◌, ℕ, ◌<◌, true, [], ◌∷◌, refl}
use Rattle.std.proofs.Common.{inl, inr, ap, sym, ◌∙◌, arith}
use Rattle.std.specs.declared.cmp.Ordering.{Ordering}
use Rattle.std.specs.declared.cmp.Ordering.TheVariants.{Less, Equal, Greater}
use Rattle.std.specs.Ordering.{MatchOrdering, nat_cmp, ordering_then, ordering_reverse, is_ne}
use Rattle.std.specs.Cmp.{IsTotalOrder, tied_itself}
use Rattle.std.specs.Cmp.Lexicographic.{slice_cmp}
use Rattle.std.proofs.lemmas.Cmp.{ranked}
use Rattle.dv_order.specs.Inner.CodeLaws.{IsAhead}
use Rattle.dv_change.specs.declared.position.Part.{Part}
use Rattle.dv_change.specs.declared.position.Part.TheVariants.{Up, Down, At}
use Rattle.dv_change.specs.Positions.{PosTree, part_order, pos_order}
use Rattle.dv_change.specs.Inner.PositionLaws.{part_order_total, pos_order_total}
use Rattle.dv_change.specs.Inner.PartCodes.{part_top, part_high, part_low, part_of_code, first_top, first_high, first_low, top_ahead, part_ahead, key_class_within}
use Rattle.dv_change.specs.Inner.Places.{IsCodeOf}

-- three numbers against three others: the first two that differ decide
abbrev pub code_order : ℕ → ℕ → ℕ → ℕ → ℕ → ℕ → Ordering
code_order t h l u i m = ordering_then (ordering_then (nat_cmp t u) (nat_cmp h i)) (nat_cmp l m)

abbrev pub IsBefore : ℕ → ℕ → ℕ → ℕ → ℕ → ℕ → Type 0
IsBefore t h l u i m = (t < u) ⊎ ((t ≡ u) × IsAhead h l i m)

module _ (t h l u i m : ℕ) where
  less_is : (a b c : Ordering) → MatchOrdering a (t < u) (t ≡ u) (u < t) → MatchOrdering b (h < i) (h ≡ i) (i < h) → MatchOrdering c (l < m) (l ≡ m) (m < l) →
      ordering_then (ordering_then a b) c ≡ Less → IsBefore t h l u i m
  less_is Less b c p q r e = inl p
  less_is Equal Less c p q r e = inr (p, inl q)
  less_is Equal Equal Less p q r e = inr (p, inr (q, r))
  less_is Equal Equal Equal p q r e = absurd cc
  less_is Equal Equal Greater p q r e = absurd cc
  less_is Equal Greater c p q r e = absurd cc
  less_is Greater b c p q r e = absurd cc

  greater_is : (a b c : Ordering) → MatchOrdering a (t < u) (t ≡ u) (u < t) → MatchOrdering b (h < i) (h ≡ i) (i < h) → MatchOrdering c (l < m) (l ≡ m) (m < l) →
      ordering_then (ordering_then a b) c ≡ Greater → IsBefore u i m t h l
  greater_is Greater b c p q r e = inl p
  greater_is Equal Greater c p q r e = inr (sym p, inl q)
  greater_is Equal Equal Greater p q r e = inr (sym p, inr (sym q, r))
  greater_is Equal Equal Equal p q r e = absurd cc
  greater_is Equal Equal Less p q r e = absurd cc
  greater_is Equal Less c p q r e = absurd cc
  greater_is Less b c p q r e = absurd cc

  equal_is : (a b c : Ordering) → MatchOrdering a (t < u) (t ≡ u) (u < t) → MatchOrdering b (h < i) (h ≡ i) (i < h) → MatchOrdering c (l < m) (l ≡ m) (m < l) →
      ordering_then (ordering_then a b) c ≡ Equal → (t ≡ u) × (h ≡ i) × (l ≡ m)
  equal_is Equal Equal Equal p q r e = (p, q, r)
  equal_is Equal Equal Less p q r e = absurd cc
  equal_is Equal Equal Greater p q r e = absurd cc
  equal_is Equal Less c p q r e = absurd cc
  equal_is Equal Greater c p q r e = absurd cc
  equal_is Less b c p q r e = absurd cc
  equal_is Greater b c p q r e = absurd cc

  pub is_less : code_order t h l u i m ≡ Less → IsBefore t h l u i m
  is_less = less_is (nat_cmp t u) (nat_cmp h i) (nat_cmp l m) (ranked t u _ refl) (ranked h i _ refl) (ranked l m _ refl)

  pub is_greater : code_order t h l u i m ≡ Greater → IsBefore u i m t h l
  is_greater = greater_is (nat_cmp t u) (nat_cmp h i) (nat_cmp l m) (ranked t u _ refl) (ranked h i _ refl) (ranked l m _ refl)

  pub is_equal : code_order t h l u i m ≡ Equal → (t ≡ u) × (h ≡ i) × (l ≡ m)
  is_equal = equal_is (nat_cmp t u) (nat_cmp h i) (nat_cmp l m) (ranked t u _ refl) (ranked h i _ refl) (ranked l m _ refl)

-- the other way round
back : {K : Type 0} {R : K → K → Ordering} → IsTotalOrder R → (x y : K) → R y x ≡ Less → Greater ≡ R x y
back o x y e = ap ordering_reverse (sym e) ∙ sym (o.antisymm x y)

part_before : (a b : Part) → IsBefore (part_top a) (part_high a) (part_low a) (part_top b) (part_high b) (part_low b) → part_order a b ≡ Less
part_before a b (inl h) = top_ahead a b h
part_before a b (inr h) = part_ahead a b h.0 h.1

above_none : (p : Part) → 0 < part_top p
above_none (Up k) = omega arith
above_none (Down k) = omega (arith, key_class_within k)
above_none (At n) = omega arith

pos_before : (a b : PosTree) → IsBefore (first_top a) (first_high a) (first_low a) (first_top b) (first_high b) (first_low b) → pos_order a b ≡ Less
pos_before [] [] (inl h) = absurd (omega arith)
pos_before [] [] (inr (e, inl h)) = absurd (omega arith)
pos_before [] [] (inr (e, inr h)) = absurd (omega (arith, h.1))
pos_before [] (q ∷ qs) h = refl
pos_before (p ∷ ps) [] (inl h) = absurd (omega arith)
pos_before (p ∷ ps) [] (inr h) = absurd (omega (arith, h.0, above_none p))
pos_before (p ∷ ps) (q ∷ qs) h = ap (λ r. ordering_then r (slice_cmp part_order ps qs)) (part_before p q h)

-- if the first codes differ, they decide
pub first_decides : (a b : PosTree) (r : Ordering) → r ≡ code_order (first_top a) (first_high a) (first_low a) (first_top b) (first_high b) (first_low b) → is_ne r ≡ true → r ≡ pos_order a b
first_decides a b Less e h = sym (pos_before a b (is_less _ _ _ _ _ _ (sym e)))
first_decides a b Equal e h = cc
first_decides a b Greater e h = back pos_order_total a b (pos_before b a (is_greater _ _ _ _ _ _ (sym e)))

-- parts that have these codes and are determined by them
module _ (t h l u i m : ℕ) (a : IsCodeOf (part_of_code t h l) t h l) (b : IsCodeOf (part_of_code u i m) u i m) where
  here : IsBefore t h l u i m → IsBefore (part_top (part_of_code t h l)) (part_high (part_of_code t h l)) (part_low (part_of_code t h l)) (part_top (part_of_code u i m)) (part_high (part_of_code u i m)) (part_low (part_of_code u i m))
  here = rw (a.0, a.1, a.2, b.0, b.1, b.2) (λ x. x)

  there : IsBefore u i m t h l → IsBefore (part_top (part_of_code u i m)) (part_high (part_of_code u i m)) (part_low (part_of_code u i m)) (part_top (part_of_code t h l)) (part_high (part_of_code t h l)) (part_low (part_of_code t h l))
  there = rw (a.0, a.1, a.2, b.0, b.1, b.2) (λ x. x)

  by_order : (r : Ordering) → r ≡ code_order t h l u i m → r ≡ part_order (part_of_code t h l) (part_of_code u i m)
  by_order Less e = sym (part_before (part_of_code t h l) (part_of_code u i m) (here (is_less _ _ _ _ _ _ (sym e))))
  by_order Greater e = back part_order_total (part_of_code t h l) (part_of_code u i m) (part_before (part_of_code u i m) (part_of_code t h l) (there (is_greater _ _ _ _ _ _ (sym e))))
  by_order Equal e =
      let same = is_equal t h l u i m (sym e) in
      sym (tied_itself part_order_total (part_of_code t h l)) ∙ (λ j. part_order (part_of_code t h l) (part_of_code (same.0 j) (same.1 j) (same.2 j)))

  pub told_order : code_order t h l u i m ≡ part_order (part_of_code t h l) (part_of_code u i m)
  told_order = by_order _ refl
