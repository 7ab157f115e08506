use Rattle.std.proofs.Common.{◌≡◌, map, take}
use Rattle.dv_match.specs.View.{member, condition}
use Rattle.dv_match.proofs.form.+copying.Given as goal

abbrev pub invariant-Filter::try_clone-loop-member : goal.invariant-Filter::try_clone-loop-member
invariant-Filter::try_clone-loop-member l = map member l.members.items ≡ map member (take l.member-index l.member-items)

abbrev pub invariant-Filters::try_clone-loop-filter : goal.invariant-Filters::try_clone-loop-filter
invariant-Filters::try_clone-loop-filter l = l.filters.items ≡ take l.filter-index l.filter-items

abbrev pub invariant-Conditions::try_clone-loop-condition : goal.invariant-Conditions::try_clone-loop-condition
invariant-Conditions::try_clone-loop-condition l = map condition l.conditions.items ≡ map condition (take l.condition-index l.condition-items)
