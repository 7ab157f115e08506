-- Two ranges whose values are of one class, and the ends that enclose exactly the keys in both.
use Rattle.std.proofs.Common.{◌≡◌, ◌∙◌, ◌<◌, ◌==◌, ◌&&◌, refl, ap, sym, Bool, false, not, arith}
use Rattle.std.proofs.lemmas.Cmp.{ranked}
use Rattle.std.specs.Cmp.{nat_cmp_is}
use Rattle.std.specs.BTreeMap.Range.{range_contains}
use Rattle.std.specs.Ordering.{is_ge, is_gt, is_le, is_lt, nat_cmp, ordering_reverse}
use Rattle.std.specs.declared.cmp.Ordering.{Ordering}
use Rattle.std.specs.declared.cmp.Ordering.TheVariants.{Less, Equal, Greater}
use Rattle.std.specs.declared.ops.Bound.TheVariants.{Included, Excluded}
use Rattle.std.proofs.lemmas.Bool.{eq-eqb}
use Rattle.std.proofs.Math.Bool.{and-false}
use Rattle.dv_value.specs.Tree.{Tree}
use Rattle.dv_order.specs.Order.{canon, class}
use Rattle.dv_order.specs.Key.{KeyTree, no_element, value, key_class, key_order}
use Rattle.dv_order.specs.Inner.KeyLaws.{key_order_total}
use Rattle.dv_match.specs.declared.range.Range.TheVariants.{Above, AtLeast, Below, AtMost}
use Rattle.dv_match.specs.Filter.{in_range}
use Rattle.dv_keyed.specs.Inner.Within.{covers}
use Rattle.dv_keyed.proofs.Ends.{LowerClassesStandFirst, class-canon}

-- an order turned round
lt-turned : (o : Ordering) → is_lt (ordering_reverse o) ≡ is_gt o
lt-turned Less = refl
lt-turned Equal = refl
lt-turned Greater = refl

le-turned : (o : Ordering) → is_le (ordering_reverse o) ≡ is_ge o
le-turned Less = refl
le-turned Equal = refl
le-turned Greater = refl

not-le-turned : (o : Ordering) → not (is_le (ordering_reverse o)) ≡ is_lt o
not-le-turned Less = refl
not-le-turned Equal = refl
not-le-turned Greater = refl

not-lt-turned : (o : Ordering) → not (is_lt (ordering_reverse o)) ≡ is_le o
not-lt-turned Less = refl
not-lt-turned Equal = refl
not-lt-turned Greater = refl

module _ (law : LowerClassesStandFirst) (k : KeyTree) where
  stands-before : (x : Tree) → key_class k < class x → key_order k (value (canon x)) ≡ Less
  stands-before x h = at k h
    where
      at : (l : KeyTree) → key_class l < class x → key_order l (value (canon x)) ≡ Less
      at no_element g = sym (nat_cmp_is 1 (class (canon x)) Less (let same = class-canon x in omega (arith, g, same)))
      at (value u) g = law u (canon x) (let same = class-canon x in omega (arith, g, same))

  stands-behind : (x : Tree) → class x < key_class k → key_order k (value (canon x)) ≡ Greater
  stands-behind x h = at k h
    where
      at : (l : KeyTree) → class x < key_class l → key_order l (value (canon x)) ≡ Greater
      at no_element g = sym (nat_cmp_is 1 (class (canon x)) Greater (let same = class-canon x in omega (arith, g, same)))
      at (value u) g = key_order_total.antisymm (value u) (value (canon x)) ∙ ap ordering_reverse (law (canon x) u (let same = class-canon x in omega (arith, g, same)))

  module _ (v w : Tree) (same : class v ≡ class w) where
    -- what is not of the class is not in both
    of-class : (s t : Bool) → (key_order k (value (canon v)) ≡ Less → s ≡ false) → (key_order k (value (canon w)) ≡ Greater → t ≡ false) → s && t ≡ ((key_class k == class v) && s) && ((key_class k == class w) && t)
    of-class s t before behind = at (nat_cmp (key_class k) (class v)) refl
      where
        x : Bool
        x = key_class k == class v

        y : Bool
        y = key_class k == class w

        at : (o : Ordering) → o ≡ nat_cmp (key_class k) (class v) → s && t ≡ (x && s) && (y && t)
        at Less e =
            let none = before (stands-before v (ranked (key_class k) (class v) Less e)) in
            ap (λ b. b && t) none ∙ sym (ap (λ b. (x && b) && (y && t)) none ∙ ap (λ b. b && (y && t)) (and-false x))
        at Greater e =
            let far : class v < key_class k = ranked (key_class k) (class v) Greater e in
            let none = behind (stands-behind w (omega (arith, far, same))) in
            ap (λ b. s && b) none ∙ and-false s ∙ sym (ap (λ b. (x && s) && (y && b)) none ∙ ap (λ b. (x && s) && b) (and-false y) ∙ and-false (x && s))
        at Equal e =
            let is : key_class k ≡ class v = ranked (key_class k) (class v) Equal e in
            sym (λ j. (eq-eqb (key_class k) (class v) is j && s) && (eq-eqb (key_class k) (class w) (is ∙ same) j && t))

    module _ (a b : KeyTree) (is-a : a ≡ value (canon v)) (is-b : b ≡ value (canon w)) where
      back : (l : KeyTree) (x : Tree) → l ≡ value (canon x) → key_order l k ≡ ordering_reverse (key_order k (value (canon x)))
      back l x is = key_order_total.antisymm l k ∙ ap (λ m. ordering_reverse (key_order k m)) is

      abbrev from : Ordering
      from = key_order k (value (canon v))

      abbrev until : Ordering
      until = key_order k (value (canon w))

      above : is_lt (key_order a k) ≡ is_gt from
      above = ap is_lt (back a v is-a) ∙ lt-turned from

      at-least : is_le (key_order a k) ≡ is_ge from
      at-least = ap is_le (back a v is-a) ∙ le-turned from

      below : not (is_le (key_order b k)) ≡ is_lt until
      below = ap (λ o. not (is_le o)) (back b w is-b) ∙ not-le-turned until

      at-most : not (is_lt (key_order b k)) ≡ is_le until
      at-most = ap (λ o. not (is_lt o)) (back b w is-b) ∙ not-lt-turned until

      pub above-below : range_contains key_order (Excluded a) (Excluded b) k ≡ covers (in_range Above v) k && covers (in_range Below w) k
      above-below = (λ j. above j && below j) ∙ of-class (is_gt from) (is_lt until) (λ e. ap is_gt e) (λ e. ap is_lt e)

      pub above-most : range_contains key_order (Excluded a) (Included b) k ≡ covers (in_range Above v) k && covers (in_range AtMost w) k
      above-most = (λ j. above j && at-most j) ∙ of-class (is_gt from) (is_le until) (λ e. ap is_gt e) (λ e. ap is_le e)

      pub least-below : range_contains key_order (Included a) (Excluded b) k ≡ covers (in_range AtLeast v) k && covers (in_range Below w) k
      least-below = (λ j. at-least j && below j) ∙ of-class (is_ge from) (is_lt until) (λ e. ap is_ge e) (λ e. ap is_lt e)

      pub least-most : range_contains key_order (Included a) (Included b) k ≡ covers (in_range AtLeast v) k && covers (in_range AtMost w) k
      least-most = (λ j. at-least j && at-most j) ∙ of-class (is_ge from) (is_le until) (λ e. ap is_ge e) (λ e. ap is_le e)
