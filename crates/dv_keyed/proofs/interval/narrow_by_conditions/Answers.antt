use Rattle.std.proofs.Common.{map}
use Rattle.dv_match.specs.Filter.{conditions_of}
use Rattle.dv_match.specs.View.{condition}
use Rattle.dv_keyed.specs.Inner.Interval.{is_in_bounds, is_in_each}
use Rattle.dv_keyed.proofs.Between.{next-passes, more-conditions}
use Rattle.dv_keyed.proofs.interval.narrow_by_conditions.Goals as goal

pub loop-condition-preserved : goal.loop-condition-preserved
loop-condition-preserved c = λ k all.
    let before = c.loop-condition.invariant k all in
    let parts = next-passes (λ cs. is_in_each k (conditions_of (map condition cs))) (λ x. is_in_bounds k (condition x)) (more-conditions k) c.as_slice-condition-items.result.now c.loop-condition.condition-index c.condition-item.result c.loop-condition-test.true c.condition-item.is before.0 in
    (parts.1, λ was. c.in_ok-narrow_by_condition.ensures k (before.1 was) parts.0)
