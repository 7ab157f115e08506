-- The order of positions is total: the kinds of two parts decide, and then their keys or their numbers.
use Rattle.std.specs.Prelude.{◌≡◌, ℕ, refl}
use Rattle.std.proofs.Common.{subst}
use Rattle.std.specs.declared.cmp.Ordering.{Ordering}
use Rattle.std.specs.Ordering.{nat_cmp, flip_args, on, then_cmp}
use Rattle.std.specs.Cmp.{IsTotalOrder, nat_cmp_total, back_total, on_total, then_total}
use Rattle.std.specs.Cmp.Lexicographic.{lists_total}
use Rattle.dv_order.specs.Key.{KeyTree, no_element, key_order}
use Rattle.dv_order.specs.Inner.KeyLaws.{key_order_total}
use Rattle.dv_order.specs.Inner.TotalOrder.{then_Equal}
use Rattle.dv_change.specs.declared.position.Part.{Part}
use Rattle.dv_change.specs.declared.position.Part.TheVariants.{Up, Down, At}
use Rattle.dv_change.specs.Positions.{kind, part_order, pos_order}

-- the ascending key, the descending key and the number of a part, and something fixed if it has none
abbrev rising : Part → KeyTree
rising (Up k) = k
rising a = no_element

abbrev falling : Part → KeyTree
falling (Down k) = k
falling a = no_element

abbrev number : Part → ℕ
number (At n) = n
number a = 0

abbrev in_steps : Part → Part → Ordering
in_steps = then_cmp (on kind nat_cmp) (then_cmp (on rising key_order) (then_cmp (on falling (flip_args key_order)) (on number nat_cmp)))

in_steps_is : (a b : Part) → in_steps a b ≡ part_order a b
in_steps_is (Up k) (Up l) = then_Equal (key_order k l)
in_steps_is (Up k) (Down l) = refl
in_steps_is (Up k) (At n) = refl
in_steps_is (Down k) (Up l) = refl
in_steps_is (Down k) (Down l) = then_Equal (key_order l k)
in_steps_is (Down k) (At n) = refl
in_steps_is (At m) (Up l) = refl
in_steps_is (At m) (Down l) = refl
in_steps_is (At m) (At n) = refl

pub part_order_total : IsTotalOrder part_order
part_order_total =
    subst IsTotalOrder (λ i a b. in_steps_is a b i) (then_total (on_total kind nat_cmp_total) (then_total (on_total rising key_order_total) (then_total (on_total falling (back_total key_order_total)) (on_total number nat_cmp_total))))

pub pos_order_total : IsTotalOrder pos_order
pos_order_total = lists_total part_order_total
