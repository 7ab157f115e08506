use Rattle.std.proofs.Common.{ap, arith}
use Rattle.dv_match.specs.Inner.Filter.{members_weight, filters_weight}
use Rattle.dv_match.specs.View.{member}
use Rattle.dv_match.specs.Inner.FilterLaws.{member-weighs, filter-weighs}
use Rattle.dv_keyed.specs.Inner.Interval.{is_in_all, is_in_member}
use Rattle.dv_keyed.proofs.Between.{next-passes, of-members, of-filters, more-members, more-filters}
use Rattle.dv_keyed.proofs.interval.+narrowing.Goals as goal

pub narrow_by_filter-narrow_by_member-requires : goal.narrow_by_filter-narrow_by_member-requires
narrow_by_filter-narrow_by_member-requires t c =
    (omega (arith, member-weighs c.members-member-items.result.now c.loop-member.member-index c.member-item.result c.loop-member-test.true c.member-item.is, ap members_weight c.members-member-items.ensures), tt)

pub narrow_by_filters-narrow_by_filter-requires : goal.narrow_by_filters-narrow_by_filter-requires
narrow_by_filters-narrow_by_filter-requires t c =
    (omega (arith, filter-weighs c.as_slice-filter-items.result.now c.loop-filter.filter-index c.filter-item.result c.loop-filter-test.true c.filter-item.is, ap filters_weight c.as_slice-filter-items.ensures), tt)

pub narrow_by_filter-loop-member-preserved : goal.narrow_by_filter-loop-member-preserved
narrow_by_filter-loop-member-preserved t c = λ k all.
    let path = c.args.path.now in
    let before = c.loop-member.invariant k all in
    let parts = next-passes (of-members k path) (λ m. is_in_member k path (member m)) (more-members k path) c.members-member-items.result.now c.loop-member.member-index c.member-item.result c.loop-member-test.true c.member-item.is before.0 in
    (parts.1, λ was. c.in_ok-narrow_by_member.ensures k (before.1 was) parts.0)

pub narrow_by_filters-loop-filter-preserved : goal.narrow_by_filters-loop-filter-preserved
narrow_by_filters-loop-filter-preserved t c = λ k all.
    let path = c.args.path.now in
    let before = c.loop-filter.invariant k all in
    let parts = next-passes (of-filters k path) (is_in_all k path) (more-filters k path) c.as_slice-filter-items.result.now c.loop-filter.filter-index c.filter-item.result c.loop-filter-test.true c.filter-item.is before.0 in
    (parts.1, λ was. c.in_ok-narrow_by_filter.ensures k (before.1 was) parts.0)
