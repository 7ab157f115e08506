-- Two lists compared element by element from the front; the rest of both decides.
use Rattle.std.specs.Prelude.{◌≡◌, ◌==◌, ◌&&◌, Bool, List, [], ◌∷◌, length, true, false, refl, ◌⊎◌}
use Rattle.std.proofs.Common.{ap, arith}
use Rattle.std.specs.Cmp.Lexicographic.{pointwise}
use Rattle.std.specs.Str.{bytes_eq}
use Rattle.std.proofs.lemmas.Bool.Decides.{nat_tests}
use Rattle.dv_value.specs.Tree.{Tree, Field, fields_of, elements_of}
use Rattle.dv_value.specs.Inner.LeftLaws.{IsLeft, IsLeft-more, decided, ended}
use Rattle.dv_order.specs.Same.{is_same, same_fields, same_elements}

abbrev pub same_field : Field → Field → Bool
same_field f g = bytes_eq f.0 g.0 && is_same f.1 g.1

pub same_fields-pointwise : (fs gs : List Field) → same_fields (fields_of fs) (fields_of gs) ≡ pointwise same_field fs gs
same_fields-pointwise [] [] = refl
same_fields-pointwise [] (g ∷ gs) = refl
same_fields-pointwise (f ∷ fs) [] = refl
same_fields-pointwise (f ∷ fs) (g ∷ gs) = ap (λ b. same_field f g && b) (same_fields-pointwise fs gs)

pub same_elements-pointwise : (vs ws : List Tree) → same_elements (elements_of vs) (elements_of ws) ≡ pointwise is_same vs ws
same_elements-pointwise [] [] = refl
same_elements-pointwise [] (w ∷ ws) = refl
same_elements-pointwise (v ∷ vs) [] = refl
same_elements-pointwise (v ∷ vs) (w ∷ ws) = ap (λ b. is_same v w && b) (same_elements-pointwise vs ws)

module _ {A : Type 0} (E : A → A → Bool) {xs ys us vs : List A} (left : IsLeft (pointwise E) xs ys us vs) where
  pub same-ended : (length us ≡ 0) ⊎ (length vs ≡ 0) → (length xs == length ys) ≡ pointwise E xs ys
  same-ended = ended left (λ n m. n == m) (λ n m e. grind (arith, nat_tests)) (λ w ws n m e. grind (arith, nat_tests)) (λ w ws n m e. grind (arith, nat_tests))

  module _ {x y : A} {us' vs' : List A} (p : us ≡ x ∷ us') (q : vs ≡ y ∷ vs') where
    pub same-more : E x y ≡ true → IsLeft (pointwise E) xs ys us' vs'
    same-more h = IsLeft-more left p q (ap (λ b. b && pointwise E us' vs') h)

    pub differs : E x y ≡ false → false ≡ pointwise E xs ys
    differs h = decided left p q false (ap (λ b. b && pointwise E us' vs') h)
