-- What is between the ends of a class and a bound of that class.
use Rattle.std.proofs.Common.{◌≡◌, ◌∙◌, ◌<◌, ◌⊎◌, inl, inr, refl, ap, sym, subst, Bool, true, false, not, ◌&&◌, ◌==◌, arith}
use Rattle.std.specs.declared.cmp.Ordering.{Ordering}
use Rattle.std.specs.declared.cmp.Ordering.TheVariants.{Less, Equal, Greater}
use Rattle.std.specs.declared.ops.Bound.{Bound}
use Rattle.std.specs.declared.ops.Bound.TheVariants.{Included, Excluded, Unbounded}
use Rattle.std.specs.Ordering.{is_lt, is_le, is_gt, is_ge, ordering_reverse}
use Rattle.std.specs.BTreeMap.Range.{IsLeBy, IsLtBy, is_from_start, is_past_end, range_contains}
use Rattle.std.specs.Range.Bound.{IsForward, bound_map}
use Rattle.std.proofs.lemmas.Bool.{eqb-true}
use Rattle.dv_value.specs.declared.value.Value.{Value}
use Rattle.dv_value.specs.View.{tree}
use Rattle.dv_value.specs.Tree.{Tree, int32}
use Rattle.dv_order.specs.Order.{canon, class, order}
use Rattle.dv_order.specs.Key.{KeyTree, no_element, value, key_class, key_order}
use Rattle.dv_order.specs.Inner.KeyLaws.{key_order_total}
use Rattle.dv_order.specs.Classes.{StartsClass, EndsClass}

abbrev pub LowerClassesStandFirst : Type 0
LowerClassesStandFirst = (v w : Tree) → class v < class w → order v w ≡ Less

pub class-canon : (v : Tree) → class (canon v) ≡ class v
class-canon (int32 n) = refl
class-canon v = refl

-- ---- the ends of a class, and a bound of that class
abbrev pub key-end : Bound Tree → Bound KeyTree
key-end b = bound_map (λ v. value (canon v)) b

less-from : (law : LowerClassesStandFirst) (a w : Tree) (v : Tree) → class a < class v → class w ≡ class v → key_order (value (canon a)) (value w) ≡ Less
less-from law a w v h e = law (canon a) w (let same = class-canon a in omega arith)

greater-from : (law : LowerClassesStandFirst) (b w : Tree) (v : Tree) → class v < class b → class w ≡ class v → key_order (value (canon b)) (value w) ≡ Greater
greater-from law b w v h e = key_order_total.antisymm (value (canon b)) (value w) ∙ ap ordering_reverse (law w (canon b) (let same = class-canon b in omega arith))

no-class : (w : Tree) → 1 ≡ class w → ⊥
no-class (int32 n) e = omega arith
no-class w e = absurd (omega arith)

pub from-start : (law : LowerClassesStandFirst) (v : Tree) (end : Bound Tree) → StartsClass v end → (k : KeyTree) → key_class k ≡ class v → is_from_start key_order (key-end end) k ≡ true
from-start law v Unbounded h k e = refl
from-start law v (Included a) h no_element e = absurd (no-class v e)
from-start law v (Included a) h (value w) e = h.1 w e
from-start law v (Excluded a) h no_element e = absurd (no-class v e)
from-start law v (Excluded a) h (value w) e = ap is_lt (less-from law a w v h e)

pub not-past : (law : LowerClassesStandFirst) (v : Tree) (end : Bound Tree) → EndsClass v end → (k : KeyTree) → key_class k ≡ class v → is_past_end key_order (key-end end) k ≡ false
not-past law v Unbounded h k e = refl
not-past law v (Included b) h k e = absurd h
not-past law v (Excluded b) h no_element e = absurd (no-class v e)
not-past law v (Excluded b) h (value w) e = ap is_le (greater-from law b w v h e)

pub key-ends : (b : Bound Value) → bound_map (λ (v : Value). value (canon (tree v))) b ≡ key-end (bound_map tree b)
key-ends (Included v) = refl
key-ends (Excluded v) = refl
key-ends Unbounded = refl

pub not-greater : (o : Ordering) → is_le o ≡ true → is_gt o ≡ false
not-greater Less e = refl
not-greater Equal e = refl
not-greater Greater e = absurd cc

turned-gt : (o : Ordering) → is_gt o ≡ true → is_lt (ordering_reverse o) ≡ true
turned-gt Less e = absurd cc
turned-gt Equal e = absurd cc
turned-gt Greater e = refl

turned-ge : (o : Ordering) → is_ge o ≡ true → is_le (ordering_reverse o) ≡ true
turned-ge Less e = absurd cc
turned-ge Equal e = refl
turned-ge Greater e = refl

turned-lt : (o : Ordering) → is_lt o ≡ true → is_le (ordering_reverse o) ≡ false
turned-lt Less e = refl
turned-lt Equal e = absurd cc
turned-lt Greater e = absurd cc

turned-le : (o : Ordering) → is_le o ≡ true → is_lt (ordering_reverse o) ≡ false
turned-le Less e = refl
turned-le Equal e = refl
turned-le Greater e = absurd cc

both : {a b : Bool} → a && b ≡ true → (a ≡ true) × (b ≡ true)
both {a = true} e = (refl, e)
both {a = false} e = absurd cc

module _ (law : LowerClassesStandFirst) (v : Tree) (key : KeyTree) (is : key ≡ value (canon v)) (ends : Bound KeyTree) where
  turned : (k : KeyTree) → key_order key k ≡ ordering_reverse (key_order k (value (canon v)))
  turned k = key_order_total.antisymm key k ∙ ap (λ l. ordering_reverse (key_order k l)) is

  module _ (end : Bound Tree) (ends-are : ends ≡ key-end end) where
    forward-above : EndsClass v end → IsForward (IsLeBy key_order) (IsLtBy key_order) (Excluded key) (key-end end)
    forward-above h = at end h
      where
        at : (b : Bound Tree) → EndsClass v b → IsForward (IsLeBy key_order) (IsLtBy key_order) (Excluded key) (key-end b)
        at Unbounded g = tt
        at (Included b) g = absurd g
        at (Excluded b) g = ap (λ l. key_order l (value (canon b))) is ∙ law (canon v) (canon b) (let one = class-canon v in let two = class-canon b in omega arith)

    pub runs-above : EndsClass v end → IsForward (IsLeBy key_order) (IsLtBy key_order) (Excluded key) ends
    runs-above h = subst (IsForward (IsLeBy key_order) (IsLtBy key_order) (Excluded key)) (sym ends-are) (forward-above h)

    forward-until : (hi : Bound KeyTree) → (hi ≡ Included key) ⊎ (hi ≡ Excluded key) → StartsClass v end → IsForward (IsLeBy key_order) (IsLtBy key_order) (key-end end) hi
    forward-until hi which h = elim which [
      | inl most ↦ subst (IsForward (IsLeBy key_order) (IsLtBy key_order) (key-end end)) (sym most) (to-key end h)
      | inr below ↦ subst (IsForward (IsLeBy key_order) (IsLtBy key_order) (key-end end)) (sym below) (under-key end h)
    ]
      where
        before : (a : Tree) → class a < class v → key_order (value (canon a)) key ≡ Less
        before a g = ap (key_order (value (canon a))) is ∙ law (canon a) (canon v) (let one = class-canon v in let two = class-canon a in omega arith)

        first : (a : Tree) → ((w : Tree) → class w ≡ class v → is_le (order (canon a) w) ≡ true) → is_gt (key_order (value (canon a)) key) ≡ false
        first a g = ap (λ l. is_gt (key_order (value (canon a)) l)) is ∙ not-greater (order (canon a) (canon v)) (g (canon v) (class-canon v))

        to-key : (b : Bound Tree) → StartsClass v b → IsForward (IsLeBy key_order) (IsLtBy key_order) (key-end b) (Included key)
        to-key Unbounded g = tt
        to-key (Included a) g = first a g.1
        to-key (Excluded a) g = ap is_gt (before a g)

        under-key : (b : Bound Tree) → StartsClass v b → IsForward (IsLeBy key_order) (IsLtBy key_order) (key-end b) (Excluded key)
        under-key Unbounded g = tt
        under-key (Included a) g = first a g.1
        under-key (Excluded a) g = before a g

    pub runs-below : StartsClass v end → IsForward (IsLeBy key_order) (IsLtBy key_order) ends (Excluded key)
    runs-below h = subst (λ b. IsForward (IsLeBy key_order) (IsLtBy key_order) b (Excluded key)) (sym ends-are) (forward-until (Excluded key) (inr refl) h)

    pub runs-most : StartsClass v end → IsForward (IsLeBy key_order) (IsLtBy key_order) ends (Included key)
    runs-most h = subst (λ b. IsForward (IsLeBy key_order) (IsLtBy key_order) b (Included key)) (sym ends-are) (forward-until (Included key) (inl refl) h)

    module _ (k : KeyTree) where
      pub in-above : EndsClass v end → key_class k == class v && is_gt (key_order k (value (canon v))) ≡ true → range_contains key_order (Excluded key) ends k ≡ true
      in-above h e =
          let parts = both e in
          λ j. (ap is_lt (turned k) ∙ turned-gt (key_order k (value (canon v))) parts.1) j && not ((ap (λ b. is_past_end key_order b k) ends-are ∙ not-past law v end h k (eqb-true (key_class k) (class v) parts.0)) j)

      pub in-from : EndsClass v end → key_class k == class v && is_ge (key_order k (value (canon v))) ≡ true → range_contains key_order (Included key) ends k ≡ true
      in-from h e =
          let parts = both e in
          λ j. (ap is_le (turned k) ∙ turned-ge (key_order k (value (canon v))) parts.1) j && not ((ap (λ b. is_past_end key_order b k) ends-are ∙ not-past law v end h k (eqb-true (key_class k) (class v) parts.0)) j)

      pub in-below : StartsClass v end → key_class k == class v && is_lt (key_order k (value (canon v))) ≡ true → range_contains key_order ends (Excluded key) k ≡ true
      in-below h e =
          let parts = both e in
          λ j. (ap (λ b. is_from_start key_order b k) ends-are ∙ from-start law v end h k (eqb-true (key_class k) (class v) parts.0)) j && not ((ap is_le (turned k) ∙ turned-lt (key_order k (value (canon v))) parts.1) j)

      pub in-until : StartsClass v end → key_class k == class v && is_le (key_order k (value (canon v))) ≡ true → range_contains key_order ends (Included key) k ≡ true
      in-until h e =
          let parts = both e in
          λ j. (ap (λ b. is_from_start key_order b k) ends-are ∙ from-start law v end h k (eqb-true (key_class k) (class v) parts.0)) j && not ((ap is_lt (turned k) ∙ turned-le (key_order k (value (canon v))) parts.1) j)
