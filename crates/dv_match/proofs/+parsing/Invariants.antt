use Rattle.std.proofs.Common.{◌≡◌, ◌+◌, ◌-◌, ◌*◌, length, map, drop}
use Rattle.dv_value.specs.Tree.{fields_of, elements_of}
use Rattle.dv_value.specs.Inner.Tree.{weight, fields_weight, elements_weight}
use Rattle.dv_value.specs.View.{tree}
use Rattle.dv_match.specs.View.{member, condition}
use Rattle.dv_match.proofs.Collected.{collected, after, member_of_field, condition_of_field, filter_of_value}
use Rattle.dv_match.proofs.+parsing.Given as goal

abbrev pub decreases-form::Filter::parse : goal.decreases-form::Filter::parse
decreases-form::Filter::parse l = 8 * fields_weight (fields_of l.document.now) + 7

abbrev pub decreases-parsing::member_of : goal.decreases-parsing::member_of
decreases-parsing::member_of l = 8 * weight (tree l.value.now) + 6

abbrev pub decreases-parsing::filters_of : goal.decreases-parsing::filters_of
decreases-parsing::filters_of l = 8 * weight (tree l.value.now) + 5

abbrev pub decreases-parsing::each_filter : goal.decreases-parsing::each_filter
decreases-parsing::each_filter l = 8 * elements_weight (elements_of l.list.now) + 7

abbrev pub decreases-parsing::filter_of : goal.decreases-parsing::filter_of
decreases-parsing::filter_of l = 8 * weight (tree l.value.now) + 6

abbrev pub decreases-parsing::conditions_of : goal.decreases-parsing::conditions_of
decreases-parsing::conditions_of l = 8 * weight (tree l.value.now) + 5

abbrev pub decreases-parsing::operators_of : goal.decreases-parsing::operators_of
decreases-parsing::operators_of l = 8 * fields_weight (fields_of l.document.now) + 7

abbrev pub decreases-parsing::condition_of : goal.decreases-parsing::condition_of
decreases-parsing::condition_of l = 8 * weight (tree l.value.now) + 6

abbrev pub decreases-parsing::negated_of : goal.decreases-parsing::negated_of
decreases-parsing::negated_of l = 8 * weight (tree l.value.now) + 5

abbrev pub decreases-parsing::test_of : goal.decreases-parsing::test_of
decreases-parsing::test_of l = 8 * weight (tree l.value.now) + 5

abbrev pub decreases-form::Test::parse : goal.decreases-form::Test::parse
decreases-form::Test::parse l = 8 * fields_weight (fields_of l.document.now) + 8

abbrev pub invariant-form::Filter::parse-members : goal.invariant-form::Filter::parse-members
invariant-form::Filter::parse-members l = collected member_of_field l.document ≡ after (map member l.members.items) (collected member_of_field (drop l.members.len l.document))

abbrev pub decreases-form::Filter::parse-members : goal.decreases-form::Filter::parse-members
decreases-form::Filter::parse-members l = length l.document - l.members.len

abbrev pub invariant-parsing::each_filter-filters : goal.invariant-parsing::each_filter-filters
invariant-parsing::each_filter-filters l = collected filter_of_value l.value-items ≡ after l.filters.items (collected filter_of_value (drop l.value-index l.value-items))

abbrev pub invariant-parsing::operators_of-conditions : goal.invariant-parsing::operators_of-conditions
invariant-parsing::operators_of-conditions l = collected condition_of_field l.document ≡ after (map condition l.conditions.items) (collected condition_of_field (drop l.conditions.len l.document))

abbrev pub decreases-parsing::operators_of-conditions : goal.decreases-parsing::operators_of-conditions
decreases-parsing::operators_of-conditions l = length l.document - l.conditions.len
