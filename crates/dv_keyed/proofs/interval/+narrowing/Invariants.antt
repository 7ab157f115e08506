use Rattle.std.proofs.Common.{◌≡◌, ◌+◌, ◌*◌, true, map, drop}
use Rattle.dv_match.specs.Filter.{members_of, filters_of}
use Rattle.dv_match.specs.Inner.Filter.{member_weight, members_weight, filters_weight}
use Rattle.dv_match.specs.View.{member}
use Rattle.dv_order.specs.Key.{KeyTree}
use Rattle.dv_keyed.specs.Inner.Interval.{is_between, is_in_all, is_in_filters}
use Rattle.dv_keyed.proofs.interval.+narrowing.Given as goal

abbrev pub decreases-narrow_by_filter : goal.decreases-narrow_by_filter
decreases-narrow_by_filter l = 2 * members_weight l.filter.now + 1

abbrev pub decreases-narrow_by_member : goal.decreases-narrow_by_member
decreases-narrow_by_member l = 2 * member_weight (member l.part.now)

abbrev pub decreases-narrow_by_filters : goal.decreases-narrow_by_filters
decreases-narrow_by_filters l = 2 * filters_weight l.filters.now + 1

-- a key that is in all bounds is in those that are left, and still between the ends if it was
abbrev pub invariant-narrow_by_filter-loop-member : goal.invariant-narrow_by_filter-loop-member
invariant-narrow_by_filter-loop-member l =
    (k : KeyTree) → is_in_all k l.path l.fn.filter ≡ true → (is_in_all k l.path (members_of (map member (drop l.member-index l.member-items))) ≡ true) × (is_between l.fn.ends k ≡ true → is_between l.ends k ≡ true)

abbrev pub invariant-narrow_by_filters-loop-filter : goal.invariant-narrow_by_filters-loop-filter
invariant-narrow_by_filters-loop-filter l =
    (k : KeyTree) → is_in_filters k l.path l.fn.filters ≡ true → (is_in_filters k l.path (filters_of (drop l.filter-index l.filter-items)) ≡ true) × (is_between l.fn.ends k ≡ true → is_between l.ends k ≡ true)
