-- Which documents a filter matches (MongoDB manual, "Query and Projection Operators", "Query an Array"). That Missing counts as null in
-- every comparison, and that MinKey and MaxKey are compared only within their own classes, are this server's own.
use Rattle.std.specs.Prelude.{ℕ, ◌==◌, ◌&&◌, ◌||◌, not, Bool, true, false, List, [], ◌∷◌, length, Some, is_some}
use Rattle.std.specs.List.{list_any, list_all}
use Rattle.std.specs.Ordering.{is_eq, is_gt, is_ge, is_lt, is_le}
use Rattle.dv_value.specs.Tree.{Tree, document, array, Field, list_of_fields, list_of_elements}
use Rattle.dv_order.specs.Order.{class, order}
use Rattle.dv_candidates.specs.Candidates.{Candidate, or_null, whole, leaves}
use Rattle.dv_match.specs.declared.range.Range.{Range}
use Rattle.dv_match.specs.declared.range.Range.TheVariants.{Above, AtLeast, Below, AtMost}
use Rattle.dv_match.specs.Filter.{Member, all_of, any_of, none_of, at_path, Members, no_members, more_members, Filters, no_filters, more_filters, Condition, equal, unequal, in_range, among, not_among, unmet, contains, exists, sized, has_element, Conditions, no_conditions, more_conditions, Test, by_operators, by_filter}

-- the candidate equals the value, by the order of values
abbrev pub is_equal : Tree → Candidate → Bool
is_equal v c = is_eq (order (or_null c) v)

-- the value meets the bound: it is greater, not less, less, or not greater
abbrev pub stands : Range → Tree → Tree → Bool
stands Above bound v = is_gt (order v bound)
stands AtLeast bound v = is_ge (order v bound)
stands Below bound v = is_lt (order v bound)
stands AtMost bound v = is_le (order v bound)

-- the candidate is of the bound's class and meets the bound
abbrev pub is_in_range : Range → Tree → Candidate → Bool
is_in_range r bound c = class (or_null c) == class bound && stands r bound (or_null c)

-- the candidate equals one of the values
abbrev pub is_among : List Tree → Candidate → Bool
is_among vs c = list_any (λ v. is_equal v c) vs

-- the list isn't empty, and each of its values equals some candidate
abbrev pub holds_every : List Tree → List Candidate → Bool
holds_every vs cs = not (length vs == 0) && list_all (λ v. list_any (is_equal v) cs) vs

-- the candidate is an array of n elements
abbrev pub has_size : ℕ → Candidate → Bool
has_size n (Some (array vs)) = length (list_of_elements vs) == n
has_size n c = false

-- the elements of the candidate, if it is an array; none otherwise
abbrev pub elements_in : Candidate → List Tree
elements_in (Some (array vs)) = list_of_elements vs
elements_in c = []

-- whether the fact b is as expected: true or false
abbrev pub agrees : Bool → Bool → Bool
agrees true b = b
agrees false b = not b

-- which documents match a filter, a member of it, and all or any of a list of filters; whether what a path leads to meets conditions;
-- which elements pass a test
unfoldable mutual
  -- a document matches a filter if it matches all its members
  pub matches : Members → List Field → Bool
  matches no_members d = true
  matches (more_members m ms) d = matches_member m d && matches ms d

  pub matches_member : Member → List Field → Bool
  matches_member (all_of fs) d = matches_all fs d
  matches_member (any_of fs) d = matches_any fs d
  matches_member (none_of fs) d = not (matches_any fs d)
  matches_member (at_path path cs) d = meets_all cs (whole d path) (leaves d path)

  pub matches_all : Filters → List Field → Bool
  matches_all no_filters d = true
  matches_all (more_filters f fs) d = matches f d && matches_all fs d

  pub matches_any : Filters → List Field → Bool
  matches_any no_filters d = false
  matches_any (more_filters f fs) d = matches f d || matches_any fs d

  -- whether what a path leads to meets all conditions, given its candidates and its leaves
  pub meets_all : Conditions → List Candidate → List Candidate → Bool
  meets_all no_conditions wholes parts = true
  meets_all (more_conditions c cs) wholes parts = meets c wholes parts && meets_all cs wholes parts

  pub meets : Condition → List Candidate → List Candidate → Bool
  meets (equal v) wholes parts = list_any (is_equal v) parts
  meets (unequal v) wholes parts = not (list_any (is_equal v) parts)
  meets (in_range r v) wholes parts = list_any (is_in_range r v) parts
  meets (among vs) wholes parts = list_any (is_among vs) parts
  meets (not_among vs) wholes parts = not (list_any (is_among vs) parts)
  meets (unmet cs) wholes parts = not (meets_all cs wholes parts)
  meets (contains vs) wholes parts = holds_every vs parts
  meets (exists b) wholes parts = agrees b (list_any is_some wholes)
  meets (sized n) wholes parts = list_any (has_size n) wholes
  meets (has_element test) wholes parts = list_any (λ c. list_any (passes test) (elements_in c)) wholes

  -- An element passes operators as the only candidate and the only leaf: if it is an array, its own elements are no leaves. Only a
  -- document passes a filter.
  pub passes : Test → Tree → Bool
  passes (by_operators cs) v = meets_all cs (Some v ∷ []) (Some v ∷ [])
  passes (by_filter ms) (document fs) = matches ms (list_of_fields fs)
  passes (by_filter ms) v = false
