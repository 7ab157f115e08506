use Rattle.std.proofs.Common.{◌≡◌, ◌+◌, ◌*◌, map, drop}
use Rattle.dv_match.specs.Filter.{members_of, filters_of}
use Rattle.dv_match.specs.Inner.Filter.{member_weight, members_weight, filters_weight}
use Rattle.dv_match.specs.View.{member}
use Rattle.dv_keyed.specs.Choice.{first_in, first_in_all}
use Rattle.dv_keyed.specs.Inner.View.{has_kind}
use Rattle.dv_keyed.proofs.plan.+conjunction.Given as goal

abbrev pub decreases-first_in_filter : goal.decreases-first_in_filter
decreases-first_in_filter l = 2 * members_weight l.filter.now + 1

abbrev pub decreases-first_in_part : goal.decreases-first_in_part
decreases-first_in_part l = 2 * member_weight (member l.part.now)

abbrev pub decreases-first_in_filters : goal.decreases-first_in_filters
decreases-first_in_filters l = 2 * filters_weight l.filters.now + 1

-- nothing is found in what was passed
abbrev pub invariant-first_in_filter-loop-member : goal.invariant-first_in_filter-loop-member
invariant-first_in_filter-loop-member l =
    first_in (has_kind l.kind) l.path (members_of (map member (drop l.member-index l.member-items))) ≡ first_in (has_kind l.kind) l.path l.fn.filter

abbrev pub invariant-first_in_filters-loop-filter : goal.invariant-first_in_filters-loop-filter
invariant-first_in_filters-loop-filter l =
    first_in_all (has_kind l.kind) l.path (filters_of (drop l.filter-index l.filter-items)) ≡ first_in_all (has_kind l.kind) l.path l.fn.filters
