-- Two lists read side by side from the front, where what is left of both decides.
use Rattle.std.specs.Prelude.{◌≡◌, ℕ, nat_le, List, ◌∷◌, length, true, false, ◌⊎◌}
use Rattle.std.proofs.Common.{sym, ◌∙◌, arith}
use Rattle.std.specs.declared.cmp.Ordering.{Ordering}
use Rattle.std.specs.declared.cmp.Ordering.TheVariants.{Less, Equal, Greater}
use Rattle.std.specs.Ordering.{ordering_then, nat_cmp, is_ne}
use Rattle.std.specs.Cmp.{nat_cmp_is}
use Rattle.std.specs.Cmp.Lexicographic.{slice_cmp}
use Rattle.std.proofs.lemmas.Bool.Decides.{nat_tests}
use Rattle.dv_update.specs.PathOrder.{begins}
use Rattle.dv_value.specs.Inner.LeftLaws.{IsLeft, IsLeft-more, decided, ended, first_is, rest_is}

-- ---- paths that begin others

module _ {xs ys us vs : List (List ℕ)} (left : IsLeft begins xs ys us vs) where
  pub begins-ended : (length us ≡ 0) ⊎ (length vs ≡ 0) → nat_le (length xs) (length ys) ≡ begins xs ys
  begins-ended = ended left nat_le (λ n m e. grind (arith, nat_tests)) (λ w ws n m e. grind (arith, nat_tests)) (λ w ws n m e. grind (arith, nat_tests))

-- ---- orders

module _ {A : Type 0} (R : A → A → Ordering) {xs ys us vs : List A} (left : IsLeft (slice_cmp R) xs ys us vs) where
  pub order-ended : (length us ≡ 0) ⊎ (length vs ≡ 0) → nat_cmp (length xs) (length ys) ≡ slice_cmp R xs ys
  order-ended = ended left nat_cmp (λ n m e. sym (nat_cmp_is n m Equal (omega arith))) (λ w ws n m e. sym (nat_cmp_is n m Less (omega arith))) (λ w ws n m e. sym (nat_cmp_is n m Greater (omega arith)))

  module _ {x y : A} {us' vs' : List A} (p : us ≡ x ∷ us') (q : vs ≡ y ∷ vs') {r : Ordering} (is : r ≡ R x y) where
    pub order-more : false ≡ is_ne r → IsLeft (slice_cmp R) xs ys us' vs'
    order-more h = IsLeft-more left p q ((λ i. ordering_then (sym is i) (slice_cmp R us' vs')) ∙ rest_is r (slice_cmp R us' vs') h)

    pub order-decided : true ≡ is_ne r → r ≡ slice_cmp R xs ys
    order-decided h = decided left p q r ((λ i. ordering_then (sym is i) (slice_cmp R us' vs')) ∙ first_is r (slice_cmp R us' vs') h)
