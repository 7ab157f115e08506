use Rattle.std.proofs.Common.{◌∙◌, ap, sym, arith}
use Rattle.dv_match.specs.Inner.Filter.{members_weight, filters_weight}
use Rattle.dv_match.specs.View.{member}
use Rattle.dv_match.specs.Inner.FilterLaws.{member-weighs, filter-weighs}
use Rattle.dv_keyed.specs.Choice.{first_in, first_in_member}
use Rattle.dv_keyed.specs.Inner.View.{bounds_seen, has_kind}
use Rattle.dv_keyed.proofs.Chosen.{none-from, passed, found, exhausted, of-members, of-filters, no-member, more-members, no-filter, more-filters}
use Rattle.dv_keyed.proofs.plan.+conjunction.Goals as goal

pub first_in_filter-first_in_part-requires : goal.first_in_filter-first_in_part-requires
first_in_filter-first_in_part-requires t c =
    (omega (arith, member-weighs c.members-member-items.result.now c.loop-member.member-index c.member-item.result c.loop-member-test.true c.member-item.is, ap members_weight c.members-member-items.ensures), tt)

pub first_in_filter-returns-in-Some : goal.first_in_filter-returns-in-Some
first_in_filter-returns-in-Some t c =
    let test = has_kind c.args.kind in
    let path = c.args.path.now in
    sym (found (of-members test path) (λ m. first_in_member test path (member m)) (no-member test path) (more-members test path) c.members-member-items.result.now c.loop-member.member-index c.member-item.result (bounds_seen c.in-Some.bounds) c.loop-member-test.true c.member-item.is (sym c.in-Some.ensures)) ∙ c.loop-member.invariant

pub first_in_filter-loop-member-preserved : goal.first_in_filter-loop-member-preserved
first_in_filter-loop-member-preserved t c =
    let test = has_kind c.args.kind in
    let path = c.args.path.now in
    passed (of-members test path) (λ m. first_in_member test path (member m)) (no-member test path) (more-members test path) c.members-member-items.result.now c.loop-member.member-index c.member-item.result c.loop-member-test.true c.member-item.is (none-from bounds_seen c.first_in_part.result _ c.in_default.not-Some c.first_in_part.ensures) ∙ c.loop-member.invariant

pub first_in_filter-returns : goal.first_in_filter-returns
first_in_filter-returns t c =
    let test = has_kind c.args.kind in
    let path = c.args.path.now in
    sym (exhausted (of-members test path) (λ m. first_in_member test path (member m)) (no-member test path) (more-members test path) c.members-member-items.result.now c.loop-member.member-index c.loop-member-test.false) ∙ c.loop-member.invariant

pub first_in_filters-first_in_filter-requires : goal.first_in_filters-first_in_filter-requires
first_in_filters-first_in_filter-requires t c =
    (omega (arith, filter-weighs c.as_slice-filter-items.result.now c.loop-filter.filter-index c.filter-item.result c.loop-filter-test.true c.filter-item.is, ap filters_weight c.as_slice-filter-items.ensures), tt)

pub first_in_filters-returns-in-Some : goal.first_in_filters-returns-in-Some
first_in_filters-returns-in-Some t c =
    let test = has_kind c.args.kind in
    let path = c.args.path.now in
    sym (found (of-filters test path) (first_in test path) (no-filter test path) (more-filters test path) c.as_slice-filter-items.result.now c.loop-filter.filter-index c.filter-item.result (bounds_seen c.in-Some.bounds) c.loop-filter-test.true c.filter-item.is (sym c.in-Some.ensures)) ∙ c.loop-filter.invariant

pub first_in_filters-loop-filter-preserved : goal.first_in_filters-loop-filter-preserved
first_in_filters-loop-filter-preserved t c =
    let test = has_kind c.args.kind in
    let path = c.args.path.now in
    passed (of-filters test path) (first_in test path) (no-filter test path) (more-filters test path) c.as_slice-filter-items.result.now c.loop-filter.filter-index c.filter-item.result c.loop-filter-test.true c.filter-item.is (none-from bounds_seen c.first_in_filter.result _ c.in_default.not-Some c.first_in_filter.ensures) ∙ c.loop-filter.invariant

pub first_in_filters-returns : goal.first_in_filters-returns
first_in_filters-returns t c =
    let test = has_kind c.args.kind in
    let path = c.args.path.now in
    sym (exhausted (of-filters test path) (first_in test path) (no-filter test path) (more-filters test path) c.as_slice-filter-items.result.now c.loop-filter.filter-index c.loop-filter-test.false) ∙ c.loop-filter.invariant
