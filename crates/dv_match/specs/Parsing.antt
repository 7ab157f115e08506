-- How a filter is parsed: the parsed filter, or the first fault in written order (MongoDB manual, "Query and Projection Operators").
-- Which fault is reported is this server's own.
use Rattle.std.specs.Prelude.{ℕ, ℤ, pos, negsuc, Bool, true, false, ◌||◌, ◌&&◌, not, List, Option, Some, None, Result, Ok, Err, codes, ◌==◌, if◌then◌else◌}
use Rattle.std.specs.List.{list_any}
use Rattle.std.specs.Str.{bytes_eq}
use Rattle.dv_value.specs.Results.{◌>>=◌}
use Rattle.dv_value.specs.Names.{begins_with_dollar}
use Rattle.dv_value.specs.Tree.{Tree, int32, int64, boolean, document, array, Fields, no_fields, field, Elements, no_elements, element, list_of_elements}
use Rattle.dv_candidates.specs.Path.{path_of}
use Rattle.dv_match.specs.declared.range.Range.TheVariants.{Above, AtLeast, Below, AtMost}
use Rattle.dv_match.specs.declared.fault.FilterFault.{FilterFault}
use Rattle.dv_match.specs.declared.fault.FilterFault.TheVariants.{UnknownOperator, BadOperand, EmptyList, BadPath}
use Rattle.dv_match.specs.declared.operator.Operator.{Operator}
use Rattle.dv_match.specs.declared.operator.Operator.TheVariants.{Eq, Ne, Gt, Gte, Lt, Lte, In, Nin, Not, All, Exists, Size, ElemMatch}
use Rattle.dv_match.specs.Filter.{Member, all_of, any_of, none_of, at_path, Members, no_members, more_members, Filters, no_filters, more_filters, Condition, equal, unequal, in_range, among, not_among, unmet, contains, exists, sized, has_element, Conditions, no_conditions, more_conditions, Test, by_operators, by_filter}

-- whether the operator's operand is a list of filters
abbrev pub takes_filters : List ℕ → Bool
takes_filters name = bytes_eq name (codes "$and") || bytes_eq name (codes "$or") || bytes_eq name (codes "$nor")

-- whether this is a document of operators: its first name begins with a dollar sign
abbrev pub lists_operators : Fields → Bool
lists_operators no_fields = false
lists_operators (field name v fs) = begins_with_dollar name

-- whether the value is a document of operators
abbrev pub is_operator_list : Tree → Bool
is_operator_list (document fs) = lists_operators fs
is_operator_list v = false

-- whether the first name begins with a dollar sign and isn't `$and`, `$or` or `$nor`
abbrev pub lists_conditions : Fields → Bool
lists_conditions no_fields = false
lists_conditions (field name v fs) = begins_with_dollar name && not (takes_filters name)

-- the query operator with this name, if any
unfoldable pub operator_named : List ℕ → Option Operator
operator_named name =
    if bytes_eq name (codes "$eq") then Some Eq
    else if bytes_eq name (codes "$ne") then Some Ne
    else if bytes_eq name (codes "$gt") then Some Gt
    else if bytes_eq name (codes "$gte") then Some Gte
    else if bytes_eq name (codes "$lt") then Some Lt
    else if bytes_eq name (codes "$lte") then Some Lte
    else if bytes_eq name (codes "$in") then Some In
    else if bytes_eq name (codes "$nin") then Some Nin
    else if bytes_eq name (codes "$not") then Some Not
    else if bytes_eq name (codes "$all") then Some All
    else if bytes_eq name (codes "$exists") then Some Exists
    else if bytes_eq name (codes "$size") then Some Size
    else if bytes_eq name (codes "$elemMatch") then Some ElemMatch
    else None

-- ---- operands

-- the operand of `$in` or `$nin`: an array, of any values
abbrev pub values_in : Tree → Result (List Tree) FilterFault
values_in (array vs) = Ok (list_of_elements vs)
values_in v = Err BadOperand

-- the operand of `$all`: an array in which no value is a document of operators
abbrev pub plain_values : Tree → Result (List Tree) FilterFault
plain_values (array vs) = if list_any is_operator_list (list_of_elements vs) then Err BadOperand else Ok (list_of_elements vs)
plain_values v = Err BadOperand

-- whether a number counts as true: any but 0 does
abbrev pub is_not_zero : ℤ → Bool
is_not_zero (pos n) = not (n == 0)
is_not_zero (negsuc n) = true

-- the operand of `$exists`: a boolean or a number
abbrev pub truth_in : Tree → Result Bool FilterFault
truth_in (boolean b) = Ok b
truth_in (int32 n) = Ok (is_not_zero n)
truth_in (int64 n) = Ok (is_not_zero n)
truth_in v = Err BadOperand

-- a number that isn't negative
abbrev pub natural : ℤ → Result ℕ FilterFault
natural (pos n) = Ok n
natural (negsuc n) = Err BadOperand

-- the operand of `$size`: a number that isn't negative
abbrev pub size_in : Tree → Result ℕ FilterFault
size_in (int32 n) = natural n
size_in (int64 n) = natural n
size_in v = Err BadOperand

-- ---- members and conditions, from what their operands are parsed to

-- the member with a path and its conditions; a fault of the path comes first
abbrev pub under_path : Option (List (List ℕ)) → Result Conditions FilterFault → Result Member FilterFault
under_path None conditions = Err BadPath
under_path (Some path) conditions = conditions >>= λ cs. Ok (at_path path cs)

-- A member, by its name: `$and`, `$or` or `$nor` with filters, or a path with conditions. Any other name with a dollar sign is an
-- unknown operator.
unfoldable pub member_named : List ℕ → Result Filters FilterFault → Result Conditions FilterFault → Result Member FilterFault
member_named name filters conditions =
    if bytes_eq name (codes "$and") then (filters >>= λ fs. Ok (all_of fs))
    else if bytes_eq name (codes "$or") then (filters >>= λ fs. Ok (any_of fs))
    else if bytes_eq name (codes "$nor") then (filters >>= λ fs. Ok (none_of fs))
    else if begins_with_dollar name then Err UnknownOperator
    else under_path (path_of name) conditions

-- a condition by its operator, from the operand, and from the operand parsed as operators (for `$not`) and as a test (for `$elemMatch`)
abbrev pub condition_by : Option Operator → Tree → Result Conditions FilterFault → Result Test FilterFault → Result Condition FilterFault
condition_by None v negated test = Err UnknownOperator
condition_by (Some Eq) v negated test = Ok (equal v)
condition_by (Some Ne) v negated test = Ok (unequal v)
condition_by (Some Gt) v negated test = Ok (in_range Above v)
condition_by (Some Gte) v negated test = Ok (in_range AtLeast v)
condition_by (Some Lt) v negated test = Ok (in_range Below v)
condition_by (Some Lte) v negated test = Ok (in_range AtMost v)
condition_by (Some In) v negated test = values_in v >>= λ vs. Ok (among vs)
condition_by (Some Nin) v negated test = values_in v >>= λ vs. Ok (not_among vs)
condition_by (Some Not) v negated test = negated >>= λ cs. Ok (unmet cs)
condition_by (Some All) v negated test = plain_values v >>= λ vs. Ok (contains vs)
condition_by (Some Exists) v negated test = truth_in v >>= λ b. Ok (exists b)
condition_by (Some Size) v negated test = size_in v >>= λ n. Ok (sized n)
condition_by (Some ElemMatch) v negated test = test >>= λ t. Ok (has_element t)

-- the single condition of being equal to the value
abbrev pub equality : Tree → Result Conditions FilterFault
equality v = Ok (more_conditions (equal v) no_conditions)

-- how filters, conditions and tests are parsed: in written order, and the operand of each operator as the operator requires
unfoldable mutual
  -- the members of a filter, in written order
  pub filter_in : Fields → Result Members FilterFault
  filter_in no_fields = Ok no_members
  filter_in (field name v fs) = member_named name (filters_in v) (conditions_in v) >>= λ m. filter_in fs >>= λ ms. Ok (more_members m ms)

  -- a filter, which must be a document
  pub filter_of : Tree → Result Members FilterFault
  filter_of (document fs) = filter_in fs
  filter_of v = Err BadOperand

  -- the operand of `$and`, `$or` or `$nor`: an array of filters, not empty
  pub filters_in : Tree → Result Filters FilterFault
  filters_in (array no_elements) = Err EmptyList
  filters_in (array vs) = each_filter vs
  filters_in v = Err BadOperand

  pub each_filter : Elements → Result Filters FilterFault
  each_filter no_elements = Ok no_filters
  each_filter (element v vs) = filter_of v >>= λ f. each_filter vs >>= λ fs. Ok (more_filters f fs)

  -- the conditions under a path: a document of operators, or any other value, which must be equal
  pub conditions_in : Tree → Result Conditions FilterFault
  conditions_in (document fs) = if lists_operators fs then operators_in fs else equality (document fs)
  conditions_in v = equality v

  -- the conditions of a document of operators, in written order
  pub operators_in : Fields → Result Conditions FilterFault
  operators_in no_fields = Ok no_conditions
  operators_in (field name v fs) = condition_by (operator_named name) v (negated_in v) (test_in v) >>= λ c. operators_in fs >>= λ cs. Ok (more_conditions c cs)

  -- the operand of `$not`: a document of operators
  pub negated_in : Tree → Result Conditions FilterFault
  negated_in (document fs) = if lists_operators fs then operators_in fs else Err BadOperand
  negated_in v = Err BadOperand

  -- the operand of `$elemMatch`: a document of operators if its first name isn't `$and`, `$or` or `$nor`, otherwise a filter
  pub test_in : Tree → Result Test FilterFault
  test_in (document fs) = if lists_conditions fs then (operators_in fs >>= λ cs. Ok (by_operators cs)) else (filter_in fs >>= λ ms. Ok (by_filter ms))
  test_in v = Err BadOperand
