-- Two lists read side by side from the front, where what is left of both decides.
use Rattle.std.specs.Prelude.{◌≡◌, ℕ, ◌+◌, List, [], ◌∷◌, length, true, false, refl, ◌⊎◌}
use Rattle.std.specs.Ordering.{ordering_then, is_ne}
use Rattle.std.specs.declared.cmp.Ordering.{Ordering}
use Rattle.std.specs.declared.cmp.Ordering.TheVariants.{Less, Equal, Greater}
use Rattle.std.proofs.Common.{ap, sym, ◌∙◌, arith}

-- us and vs are what is left of xs and ys after as many items of each, and f returns the same for them as for xs and ys
pub record IsLeft {A R : Type 0} (f : List A → List A → R) (xs ys us vs : List A) : Type 0 where
  pub passed : length us + length ys ≡ length vs + length xs
  pub decides : f us vs ≡ f xs ys

module _ {A R : Type 0} {f : List A → List A → R} {xs ys us vs : List A} (left : IsLeft f xs ys us vs) {x y : A} {us' vs' : List A} (p : us ≡ x ∷ us') (q : vs ≡ y ∷ vs') where
  -- a pair that decides nothing is passed
  pub IsLeft-more : f (x ∷ us') (y ∷ vs') ≡ f us' vs' → IsLeft f xs ys us' vs'
  IsLeft-more same = record {
    passed = omega (arith, left.passed, ap length p, ap length q);
    decides = sym same ∙ (λ i. f (sym p i) (sym q i)) ∙ left.decides;
  }

  -- a pair that decides
  pub decided : (r : R) → f (x ∷ us') (y ∷ vs') ≡ r → r ≡ f xs ys
  decided r is = sym is ∙ (λ i. f (sym p i) (sym q i)) ∙ left.decides

module _ {A R : Type 0} {f : List A → List A → R} {xs ys us vs : List A} (left : IsLeft f xs ys us vs) (by : ℕ → ℕ → R)
    (both : (n m : ℕ) → n ≡ m → by n m ≡ f [] []) (first : (w : A) (ws : List A) (n m : ℕ) → n + length (w ∷ ws) ≡ m → by n m ≡ f [] (w ∷ ws)) (second : (w : A) (ws : List A) (n m : ℕ) → n ≡ m + length (w ∷ ws) → by n m ≡ f (w ∷ ws) []) where
  -- if nothing is left of one list, the lengths decide
  pub ended : (length us ≡ 0) ⊎ (length vs ≡ 0) → by (length xs) (length ys) ≡ f xs ys
  ended h = by_lengths us vs (length xs) (length ys) left.passed h ∙ left.decides
    where
      by_lengths : (us vs : List A) (n m : ℕ) → length us + m ≡ length vs + n → (length us ≡ 0) ⊎ (length vs ≡ 0) → by n m ≡ f us vs
      by_lengths [] [] n m e h = both n m (omega arith)
      by_lengths [] (v ∷ vs) n m e h = first v vs n m (omega arith)
      by_lengths (u ∷ us) [] n m e h = second u us n m (omega arith)
      by_lengths (u ∷ us) (v ∷ vs) n m e h = absurd (omega arith)

-- ---- a pair in order, and what follows it

pub rest_is : (r o : Ordering) → false ≡ is_ne r → ordering_then r o ≡ o
rest_is Less o h = cc
rest_is Equal o h = refl
rest_is Greater o h = cc

pub first_is : (r o : Ordering) → true ≡ is_ne r → ordering_then r o ≡ r
first_is Less o h = refl
first_is Equal o h = cc
first_is Greater o h = refl
