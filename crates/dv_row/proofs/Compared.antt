-- Two ways compared component by component from the start, where what is left of both decides.
use Rattle.std.specs.Prelude.{◌≡◌, ℕ, List, ◌∷◌, length, true, false, ◌⊎◌}
use Rattle.std.proofs.Common.{sym, ◌∙◌, arith}
use Rattle.std.specs.Cmp.{nat_cmp_is}
use Rattle.std.specs.Ordering.{ordering_then, nat_cmp, is_ne}
use Rattle.std.specs.declared.cmp.Ordering.{Ordering}
use Rattle.std.specs.declared.cmp.Ordering.TheVariants.{Less, Equal, Greater}
use Rattle.dv_row.specs.Inner.Ways.{name_order, way_order}
use Rattle.dv_value.specs.Inner.LeftLaws.{IsLeft, IsLeft-more, decided, ended, first_is, rest_is}

module _ {xs ys us vs : List (List ℕ)} (left : IsLeft way_order xs ys us vs) where
  -- if nothing is left of one, the lengths decide
  pub order-ended : (length us ≡ 0) ⊎ (length vs ≡ 0) → nat_cmp (length xs) (length ys) ≡ way_order xs ys
  order-ended = ended left nat_cmp (λ n m e. sym (nat_cmp_is n m Equal (omega arith))) (λ w ws n m e. sym (nat_cmp_is n m Less (omega arith))) (λ w ws n m e. sym (nat_cmp_is n m Greater (omega arith)))

  module _ {x y : List ℕ} {us' vs' : List (List ℕ)} (p : us ≡ x ∷ us') (q : vs ≡ y ∷ vs') {r : Ordering} (is : r ≡ name_order x y) where
    -- a pair that decides nothing is passed
    pub order-more : false ≡ is_ne r → IsLeft way_order xs ys us' vs'
    order-more h = IsLeft-more left p q ((λ i. ordering_then (sym is i) (way_order us' vs')) ∙ rest_is r (way_order us' vs') h)

    -- a pair that decides
    pub order-decided : true ≡ is_ne r → r ≡ way_order xs ys
    order-decided h = decided left p q r ((λ i. ordering_then (sym is i) (way_order us' vs')) ∙ first_is r (way_order us' vs') h)
