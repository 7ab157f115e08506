-- Two lists compared from the front; the rest of both decides. And fields and elements compared in this way.
use Rattle.std.specs.Prelude.{◌≡◌, ℕ, ◌+◌, ◌<◌, List, [], ◌∷◌, length, slice_get, Some, true, false, refl, ◌⊎◌, zero, suc}
use Rattle.std.proofs.Common.{ap, sym, ◌∙◌, arith}
use Rattle.std.specs.declared.cmp.Ordering.{Ordering}
use Rattle.std.specs.declared.cmp.Ordering.TheVariants.{Less, Equal, Greater}
use Rattle.std.specs.Ordering.{ordering_then, nat_cmp, is_ne}
use Rattle.std.specs.Cmp.{nat_cmp_is}
use Rattle.std.specs.Cmp.Lexicographic.{slice_cmp}
use Rattle.dv_value.specs.Tree.{Tree, Field, fields_of, elements_of}
use Rattle.dv_order.specs.Order.{class, field_order, fields_order, elements_order, order}
use Rattle.dv_order.specs.Inner.TotalOrder.{then_assoc}

-- the first comparison decides if it finds a difference, otherwise the second
first_is : (r o s : Ordering) → ordering_then r o ≡ s → true ≡ is_ne r → r ≡ s
first_is Less o s e h = e
first_is Equal o s e h = cc
first_is Greater o s e h = e

rest_is : (r o s : Ordering) → ordering_then r o ≡ s → false ≡ is_ne r → o ≡ s
rest_is Less o s e h = cc
rest_is Equal o s e h = e
rest_is Greater o s e h = cc

-- the class and the name decide if they differ in two fields, otherwise the values
labels_first : (f g : Field) (r : Ordering) → r ≡ ordering_then (nat_cmp (class f.1) (class g.1)) (slice_cmp nat_cmp f.0 g.0) → ordering_then r (order f.1 g.1) ≡ field_order f g
labels_first f g r is = ap (λ s. ordering_then s (order f.1 g.1)) is ∙ then_assoc (nat_cmp (class f.1) (class g.1)) (slice_cmp nat_cmp f.0 g.0) (order f.1 g.1)

pub labels_decide : (f g : Field) (r : Ordering) → r ≡ ordering_then (nat_cmp (class f.1) (class g.1)) (slice_cmp nat_cmp f.0 g.0) → true ≡ is_ne r → r ≡ field_order f g
labels_decide f g r is = first_is r (order f.1 g.1) (field_order f g) (labels_first f g r is)

pub values_decide : (f g : Field) (r : Ordering) → r ≡ ordering_then (nat_cmp (class f.1) (class g.1)) (slice_cmp nat_cmp f.0 g.0) → false ≡ is_ne r → order f.1 g.1 ≡ field_order f g
values_decide f g r is = rest_is r (order f.1 g.1) (field_order f g) (labels_first f g r is)

-- us and vs are what is left of xs and ys after as many elements of each, and decide as these do
pub record IsLeft {A : Type 0} (R : A → A → Ordering) (xs ys us vs : List A) : Type 0 where
  pub passed : length us + length ys ≡ length vs + length xs
  pub decides : slice_cmp R us vs ≡ slice_cmp R xs ys

-- nothing is passed yet
pub IsLeft-all : {A : Type 0} (R : A → A → Ordering) (xs ys us vs : List A) → us ≡ xs → vs ≡ ys → IsLeft R xs ys us vs
IsLeft-all R xs ys us vs p q = rw (p, q) (record { passed = omega arith; decides = refl })

module _ {A : Type 0} {R : A → A → Ordering} {xs ys us vs : List A} (left : IsLeft R xs ys us vs) {x y : A} {us' vs' : List A} (p : us ≡ x ∷ us') (q : vs ≡ y ∷ vs') {r : Ordering} (is : r ≡ R x y) where
  turn : ordering_then r (slice_cmp R us' vs') ≡ slice_cmp R xs ys
  turn = (λ i. ordering_then (is i) (slice_cmp R us' vs')) ∙ (λ i. slice_cmp R (sym p i) (sym q i)) ∙ left.decides

  -- unequal elements decide
  pub decided : true ≡ is_ne r → r ≡ slice_cmp R xs ys
  decided h = first_is r (slice_cmp R us' vs') (slice_cmp R xs ys) turn h

  -- equal ones leave it to those after them
  pub IsLeft-more : false ≡ is_ne r → IsLeft R xs ys us' vs'
  IsLeft-more h = record {
    passed = omega (arith, left.passed, ap length p, ap length q);
    decides = rest_is r (slice_cmp R us' vs') (slice_cmp R xs ys) turn h;
  }

lengths : {A : Type 0} (R : A → A → Ordering) (us vs : List A) (m n : ℕ) → length us + n ≡ length vs + m → (length us ≡ 0) ⊎ (length vs ≡ 0) → nat_cmp m n ≡ slice_cmp R us vs
lengths R [] [] m n p h = sym (nat_cmp_is m n Equal (omega arith))
lengths R [] (v ∷ vs) m n p h = sym (nat_cmp_is m n Less (omega arith))
lengths R (u ∷ us) [] m n p h = sym (nat_cmp_is m n Greater (omega arith))
lengths R (u ∷ us) (v ∷ vs) m n p h = absurd (omega arith)

-- where nothing is left of one list, the lengths decide
pub ended : {A : Type 0} {R : A → A → Ordering} {xs ys us vs : List A} → IsLeft R xs ys us vs → (length us ≡ 0) ⊎ (length vs ≡ 0) → nat_cmp (length xs) (length ys) ≡ slice_cmp R xs ys
ended {R = R} {xs = xs} {ys = ys} {us = us} {vs = vs} left h = lengths R us vs (length xs) (length ys) left.passed h ∙ left.decides

-- there is an element at each place below the length
pub element_at : {A : Type 0} (xs : List A) (i : ℕ) → i < length xs → (x : A) × (Some x ≡ slice_get xs i)
element_at [] i h = absurd (omega arith)
element_at (x ∷ xs) zero h = (x, refl)
element_at (x ∷ xs) (suc i) h = element_at xs i (omega arith)

-- documents and arrays are compared as lists, front to back
pub fields_order-fields_of : (fs gs : List Field) → fields_order (fields_of fs) (fields_of gs) ≡ slice_cmp field_order fs gs
fields_order-fields_of [] [] = refl
fields_order-fields_of [] (g ∷ gs) = refl
fields_order-fields_of (f ∷ fs) [] = refl
fields_order-fields_of (f ∷ fs) (g ∷ gs) =
    let classes = nat_cmp (class f.1) (class g.1) in
    let names = slice_cmp nat_cmp f.0 g.0 in
    let rest = slice_cmp field_order fs gs in
    ap (λ r. ordering_then classes (ordering_then names (ordering_then (order f.1 g.1) r))) (fields_order-fields_of fs gs)
    ∙ ap (ordering_then classes) (sym (then_assoc names (order f.1 g.1) rest))
    ∙ sym (then_assoc classes (ordering_then names (order f.1 g.1)) rest)

pub elements_order-elements_of : (vs ws : List Tree) → elements_order (elements_of vs) (elements_of ws) ≡ slice_cmp order vs ws
elements_order-elements_of [] [] = refl
elements_order-elements_of [] (w ∷ ws) = refl
elements_order-elements_of (v ∷ vs) [] = refl
elements_order-elements_of (v ∷ vs) (w ∷ ws) = ap (ordering_then (order v w)) (elements_order-elements_of vs ws)
