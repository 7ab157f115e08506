-- The order of keys is total: their classes decide, and then the values, whose order is total.
use Rattle.std.specs.Prelude.{◌≡◌, Option, true, refl, pos}
use Rattle.std.proofs.Common.{subst}
use Rattle.std.specs.declared.cmp.Ordering.{Ordering}
use Rattle.std.specs.declared.cmp.Ordering.TheVariants.{Less, Equal, Greater}
use Rattle.std.specs.Ordering.{nat_cmp, is_eq, is_lt, is_ne, on, then_cmp}
use Rattle.std.specs.Cmp.{Equal-is, IsTotalOrder, eq_by_cmp_equiv, nat_cmp_total, on_total, then_total}
use Rattle.dv_value.specs.Tree.{Tree, int32}
use Rattle.dv_order.specs.Order.{class, order}
use Rattle.dv_order.specs.Key.{KeyTree, no_element, value, key_at, key_class, key_order}
use Rattle.dv_order.specs.Inner.TotalOrder.{order_total, unequal_decides, classes_first}

-- the value of a key, and something fixed where it has none
abbrev value_of : KeyTree → Tree
value_of no_element = int32 (pos 0)
value_of (value v) = v

abbrev in_two_steps : KeyTree → KeyTree → Ordering
in_two_steps = then_cmp (on key_class nat_cmp) (on value_of order)

-- no value is of the class that no element has
pub no_class : (v : Tree) → is_ne (nat_cmp 1 (class v)) ≡ true
no_class (int32 n) = refl
no_class v = refl

pub no_class_back : (v : Tree) → is_ne (nat_cmp (class v) 1) ≡ true
no_class_back (int32 n) = refl
no_class_back v = refl

in_two_steps_is : (k l : KeyTree) → in_two_steps k l ≡ key_order k l
in_two_steps_is no_element no_element = refl
in_two_steps_is no_element (value w) = unequal_decides _ _ (no_class w)
in_two_steps_is (value v) no_element = unequal_decides _ _ (no_class_back v)
in_two_steps_is (value v) (value w) = classes_first v w

pub key_order_total : IsTotalOrder key_order
key_order_total = subst IsTotalOrder (λ i k l. in_two_steps_is k l i) (then_total (on_total key_class nat_cmp_total) (on_total value_of order_total))

-- whether keys are equal, either way round
pub equal-back : (k l : KeyTree) → is_eq (key_order k l) ≡ is_eq (key_order l k)
equal-back k l = (eq_by_cmp_equiv key_order_total).symm k l

pub equal-from : (o : Ordering) → is_eq o ≡ true → o ≡ Equal
equal-from o e = (Equal-is o).0 e

pub is-less : (o : Ordering) → is_lt o ≡ true → o ≡ Less
is-less Less e = refl
is-less Equal e = absurd cc
is-less Greater e = absurd cc

-- what the law of keys says that are equal
abbrev pub EqualKeysAreOne : Type 0
EqualKeysAreOne = (v w : Option Tree) → key_order (key_at v) (key_at w) ≡ Equal → key_at v ≡ key_at w
