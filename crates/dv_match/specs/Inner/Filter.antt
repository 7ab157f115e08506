-- What only bodies and proofs need of `Filter`.
use Rattle.std.specs.Prelude.{ℕ, suc, ◌+◌}
use Rattle.dv_match.specs.Filter.{Member, Members, Filters, Condition, Conditions, Test, all_of, any_of, none_of, at_path, no_members, more_members, no_filters, more_filters, equal, unequal, in_range, among, not_among, unmet, contains, exists, sized, has_element, no_conditions, more_conditions, by_operators, by_filter}

-- the number of parts of a form, itself included: the measure of recursions over it
abbrev mutual
  pub member_weight : Member → ℕ
  member_weight (all_of fs) = suc (filters_weight fs)
  member_weight (any_of fs) = suc (filters_weight fs)
  member_weight (none_of fs) = suc (filters_weight fs)
  member_weight (at_path path cs) = suc (conditions_weight cs)

  pub members_weight : Members → ℕ
  members_weight no_members = 0
  members_weight (more_members m ms) = member_weight m + members_weight ms

  pub filters_weight : Filters → ℕ
  filters_weight no_filters = 0
  filters_weight (more_filters f fs) = suc (members_weight f) + filters_weight fs

  pub condition_weight : Condition → ℕ
  condition_weight (equal v) = 1
  condition_weight (unequal v) = 1
  condition_weight (in_range r v) = 1
  condition_weight (among vs) = 1
  condition_weight (not_among vs) = 1
  condition_weight (unmet cs) = suc (conditions_weight cs)
  condition_weight (contains vs) = 1
  condition_weight (exists b) = 1
  condition_weight (sized n) = 1
  condition_weight (has_element test) = suc (test_weight test)

  pub conditions_weight : Conditions → ℕ
  conditions_weight no_conditions = 0
  conditions_weight (more_conditions c cs) = condition_weight c + conditions_weight cs

  pub test_weight : Test → ℕ
  test_weight (by_operators cs) = suc (conditions_weight cs)
  test_weight (by_filter ms) = suc (members_weight ms)
