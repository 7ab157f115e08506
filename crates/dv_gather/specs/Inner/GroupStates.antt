-- What groups hold, each a key and the states of its accumulators, and what a row that is added changes in it: definitions for
-- bodies.
use Rattle.std.specs.Prelude.{ℕ, suc, List, [], ◌∷◌, map, Some, None, codes}
use Rattle.std.specs.Option.{unwrap_or}
use Rattle.std.specs.Map.{lookup}
use Rattle.std.specs.BTreeMap.{insert_entry, is_at}
use Rattle.dv_value.specs.Tree.{Tree, null, Field}
use Rattle.dv_order.specs.Order.{canon}
use Rattle.dv_order.specs.Key.{KeyTree, value, key_order}
use Rattle.dv_candidates.specs.Candidates.{Candidate}
use Rattle.dv_row.specs.Expressions.{value_of, with_field_behind}
use Rattle.dv_row.specs.Row.{Row}
use Rattle.dv_gather.specs.Grouping.{Accumulation, Grouping, key_in}
use Rattle.dv_gather.specs.Inner.AccumulatorStates.{AccumulatorState, of_none, with_value_at, state_value}

-- the key, if there was a row, and the state of the accumulator of each field
abbrev pub GroupState : Type 0
GroupState = List Tree × List AccumulatorState

abbrev pub states_of_none : List Accumulation → List AccumulatorState
states_of_none = map (λ a. of_none a.accumulator)

-- the states with one more value at a place, if there is a value
abbrev pub with_present_at : ℕ → Candidate → List AccumulatorState → List AccumulatorState
with_present_at i None ts = ts
with_present_at i (Some v) ts = with_value_at i v ts

-- the states with a row's values, from a place on
abbrev pub with_values_from : ℕ → List Accumulation → Row → List AccumulatorState → List AccumulatorState
with_values_from i [] d ts = ts
with_values_from i (a ∷ fields) d ts = with_values_from (suc i) fields d (with_present_at i (value_of a.argument d) ts)

abbrev pub with_values : List Accumulation → Row → List AccumulatorState → List AccumulatorState
with_values = with_values_from 0

-- a group that had no row begins with a key and the states over no rows
abbrev pub started_from : List Accumulation → Tree → List Tree → List AccumulatorState → GroupState
started_from fields k [] ts = (k ∷ [], states_of_none fields)
started_from fields k (l ∷ ls) ts = (l ∷ ls, ts)

abbrev pub started : List Accumulation → Tree → GroupState → GroupState
started fields k t = started_from fields k t.0 t.1

-- a group with a row's values
abbrev pub with_row_values : List Accumulation → Row → GroupState → GroupState
with_row_values fields d t = (t.0, with_values fields d t.1)

-- a group with one more row, which has this key
abbrev pub group_with_keyed_row : List Accumulation → Tree → Row → GroupState → GroupState
group_with_keyed_row fields k d t = with_row_values fields d (started fields k t)

-- a group with one more row
abbrev pub group_with_row : Grouping → Row → GroupState → GroupState
group_with_row g d t = with_row_values g.fields d (started g.fields (key_in g d) t)

abbrev pub without_rows : GroupState
without_rows = ([], [])

-- groups with one more row, under its key
abbrev pub groups_with_row_under : Grouping → Row → KeyTree → List (KeyTree × GroupState) → List (KeyTree × GroupState)
groups_with_row_under g d k es = insert_entry key_order es k (group_with_row g d (unwrap_or (lookup (is_at (key_order k)) es) without_rows))

abbrev pub groups_with_row : Grouping → Row → List (KeyTree × GroupState) → List (KeyTree × GroupState)
groups_with_row g d es = groups_with_row_under g d (value (canon (key_in g d))) es

abbrev pub groups_with_rows : Grouping → List Row → List (KeyTree × GroupState) → List (KeyTree × GroupState)
groups_with_rows g [] es = es
groups_with_rows g (d ∷ ds) es = groups_with_rows g ds (groups_with_row g d es)

-- fields, followed by these values, each under the name of a field of groups
abbrev pub with_named : List Accumulation → List Tree → List Field → List Field
with_named [] vs fs = fs
with_named (a ∷ fields) [] fs = fs
with_named (a ∷ fields) (v ∷ vs) fs = with_named fields vs (with_field_behind a.name (Some v) fs)

-- the row of these values: a key, and one for each field
abbrev pub row_of_values : List Accumulation → List Tree → Row
row_of_values fields [] = []
row_of_values fields (k ∷ vs) = with_named fields vs ((codes "_id", k) ∷ [])

-- the names of the row of a group, if none is left out
abbrev pub row_names : List Accumulation → List (List ℕ)
row_names fields = codes "_id" ∷ map (λ a. a.name) fields

abbrev pub key_or_null : List Tree → Tree
key_or_null [] = null
key_or_null (k ∷ ks) = k

-- the key of a group, and the values of its states
abbrev pub row_values : GroupState → List Tree
row_values t = key_or_null t.0 ∷ map state_value t.1

-- the row of a group
abbrev pub row_of_state : List Accumulation → GroupState → Row
row_of_state fields t = row_of_values fields (row_values t)
