-- Parsed filters (MongoDB manual, "Query and Projection Operators"). The choice of operators is this server's own.
use Rattle.std.specs.Prelude.{ℕ, Bool, List, [], ◌∷◌}
use Rattle.dv_value.specs.Tree.{Tree}
use Rattle.dv_match.specs.declared.range.Range.{Range}

-- the members of a filter; a list of filters; the conditions on what a path leads to; a test of an array's element
mutual
  pub data Member : Type 0 where
    -- `$and`, `$or`, `$nor`
    all_of : Filters → Member
    any_of : Filters → Member
    none_of : Filters → Member
    -- a path, as its components, with its conditions
    at_path : List (List ℕ) → Conditions → Member

  pub data Members : Type 0 where
    no_members : Members
    more_members : Member → Members → Members

  pub data Filters : Type 0 where
    no_filters : Filters
    more_filters : Members → Filters → Filters

  pub data Condition : Type 0 where
    -- `$eq`, or a value without an operator; `$ne`
    equal : Tree → Condition
    unequal : Tree → Condition
    -- `$gt`, `$gte`, `$lt`, `$lte`
    in_range : Range → Tree → Condition
    -- `$in`, `$nin`
    among : List Tree → Condition
    not_among : List Tree → Condition
    -- `$not`
    unmet : Conditions → Condition
    -- `$all`; `$exists`; `$size`
    contains : List Tree → Condition
    exists : Bool → Condition
    sized : ℕ → Condition
    -- `$elemMatch`
    has_element : Test → Condition

  pub data Conditions : Type 0 where
    no_conditions : Conditions
    more_conditions : Condition → Conditions → Conditions

  -- a test of an array's element: operators that it must meet by itself, or a filter, which only a document can match
  pub data Test : Type 0 where
    by_operators : Conditions → Test
    by_filter : Members → Test

abbrev pub members_of : List Member → Members
members_of [] = no_members
members_of (m ∷ ms) = more_members m (members_of ms)

abbrev pub filters_of : List Members → Filters
filters_of [] = no_filters
filters_of (f ∷ fs) = more_filters f (filters_of fs)

abbrev pub conditions_of : List Condition → Conditions
conditions_of [] = no_conditions
conditions_of (c ∷ cs) = more_conditions c (conditions_of cs)
