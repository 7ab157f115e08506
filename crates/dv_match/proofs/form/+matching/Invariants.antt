use Rattle.std.proofs.Common.{◌≡◌, ◌+◌, ◌*◌, true, false, take}
use Rattle.std.specs.List.{list_any, list_all}
use Rattle.dv_value.specs.View.{tree}
use Rattle.dv_match.specs.Inner.Asked.{wholes, parts}
use Rattle.dv_match.specs.Inner.Filter.{member_weight, members_weight, filters_weight, condition_weight, conditions_weight, test_weight}
use Rattle.dv_match.specs.Match.{matches, matches_member, meets, passes}
use Rattle.dv_match.specs.View.{member, condition, test}
use Rattle.dv_match.proofs.form.+matching.Given as goal

abbrev pub decreases-Filter::matches : goal.decreases-Filter::matches
decreases-Filter::matches l = 4 * members_weight l.self.now + 1

abbrev pub decreases-Member::matches : goal.decreases-Member::matches
decreases-Member::matches l = 4 * member_weight (member l.self.now)

abbrev pub decreases-Filters::all_match : goal.decreases-Filters::all_match
decreases-Filters::all_match l = 4 * filters_weight l.self.now + 1

abbrev pub decreases-Filters::any_matches : goal.decreases-Filters::any_matches
decreases-Filters::any_matches l = 4 * filters_weight l.self.now + 1

abbrev pub decreases-Conditions::are_met : goal.decreases-Conditions::are_met
decreases-Conditions::are_met l = 4 * conditions_weight l.self.now + 1

abbrev pub decreases-Condition::is_met : goal.decreases-Condition::is_met
decreases-Condition::is_met l = 4 * condition_weight (condition l.self.now)

abbrev pub decreases-Condition::is_met-any_candidate : goal.decreases-Condition::is_met-any_candidate
decreases-Condition::is_met-any_candidate l = 4 * test_weight (test l.wanted.now) + 3

abbrev pub decreases-Test::passes_in : goal.decreases-Test::passes_in
decreases-Test::passes_in l = 4 * test_weight (test l.self.now) + 2

abbrev pub decreases-Test::any_passes : goal.decreases-Test::any_passes
decreases-Test::any_passes l = 4 * test_weight (test l.self.now) + 1

abbrev pub decreases-Test::passes : goal.decreases-Test::passes
decreases-Test::passes l = 4 * test_weight (test l.self.now)

abbrev pub invariant-Filter::matches-loop-member : goal.invariant-Filter::matches-loop-member
invariant-Filter::matches-loop-member l = list_all (λ m. matches_member (member m) l.document) (take l.member-index l.member-items) ≡ true

abbrev pub invariant-Filters::all_match-loop-filter : goal.invariant-Filters::all_match-loop-filter
invariant-Filters::all_match-loop-filter l = list_all (λ f. matches f l.document) (take l.filter-index l.filter-items) ≡ true

abbrev pub invariant-Filters::any_matches-loop-filter : goal.invariant-Filters::any_matches-loop-filter
invariant-Filters::any_matches-loop-filter l = list_any (λ f. matches f l.document) (take l.filter-index l.filter-items) ≡ false

abbrev pub invariant-Conditions::are_met-loop-condition : goal.invariant-Conditions::are_met-loop-condition
invariant-Conditions::are_met-loop-condition l = list_all (λ c. meets (condition c) (wholes l.place) (parts l.place)) (take l.condition-index l.condition-items) ≡ true

abbrev pub invariant-Test::any_passes-loop-element : goal.invariant-Test::any_passes-loop-element
invariant-Test::any_passes-loop-element l = list_any (λ v. passes (test l.self) (tree v)) (take l.element-index l.element-items) ≡ false
