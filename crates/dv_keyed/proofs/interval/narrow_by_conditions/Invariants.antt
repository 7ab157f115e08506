use Rattle.std.proofs.Common.{◌≡◌, true, drop, map}
use Rattle.dv_match.specs.Filter.{conditions_of}
use Rattle.dv_match.specs.View.{condition}
use Rattle.dv_order.specs.Key.{KeyTree}
use Rattle.dv_keyed.specs.Inner.Interval.{is_between, is_in_each}
use Rattle.dv_keyed.proofs.interval.narrow_by_conditions.Given as goal

-- a key that is in all bounds is in those that are left, and still between the ends if it was
abbrev pub invariant-loop-condition : goal.invariant-loop-condition
invariant-loop-condition l =
    (k : KeyTree) → is_in_each k l.fn.conditions ≡ true → (is_in_each k (conditions_of (map condition (drop l.condition-index l.condition-items))) ≡ true) × (is_between l.fn.ends k ≡ true → is_between l.ends k ≡ true)
