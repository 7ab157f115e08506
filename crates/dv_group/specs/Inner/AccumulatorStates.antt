-- What a group holds for one accumulator, over its rows, and how it changes as a row is added or removed: definitions that bodies
-- use.
use Rattle.std.specs.Prelude.{ℕ, zero, suc, ◌+◌, ◌-◌, ℤ, pos, ◌+ℤ◌, ◌-ℤ◌, nat_eq, cond, List, [], ◌∷◌, Option, None, Some}
use Rattle.std.specs.Map.{values_of}
use Rattle.dv_value.specs.Tree.{Tree, array, elements_of, null}
use Rattle.dv_order.specs.Order.{canon}
use Rattle.dv_order.specs.Key.{value}
use Rattle.dv_candidates.specs.Candidates.{or_null}
use Rattle.dv_row.specs.Expressions.{value_of}
use Rattle.dv_row.specs.Row.{Row}
use Rattle.dv_change.specs.declared.position.Part.{Part}
use Rattle.dv_change.specs.declared.position.Part.TheVariants.{Up, Down}
use Rattle.dv_change.specs.Changes.{Positioned}
use Rattle.dv_change.specs.Inner.Ordered.{gone, put}
use Rattle.dv_change.specs.Positions.{PosTree}
use Rattle.dv_gather.specs.declared.accumulator.Accumulator.{Accumulator}
use Rattle.dv_gather.specs.declared.accumulator.Accumulator.TheVariants.{Sum, Min, Max, Push}
use Rattle.dv_gather.specs.Extremes.{is_null}
use Rattle.dv_gather.specs.Grouping.{Accumulation}
use Rattle.dv_gather.specs.Sums.{addend, is_int64, spelled}
use Rattle.dv_group.specs.declared.accumulator_state.RowChange.{RowChange}
use Rattle.dv_group.specs.declared.accumulator_state.RowChange.TheVariants.{Added, Removed}

-- values, each at the position of its row
abbrev pub Values : Type 0
Values = List (PosTree × Tree)

-- the sum of the numbers, and how many of them are int64s; the rows with a value that isn't null, ranked by it; or the values
pub data AccumulatorState : Type 0 where
  sum_state : ℤ → ℕ → AccumulatorState
  extreme_state : Positioned → AccumulatorState
  array_state : Values → AccumulatorState

-- the value of a field in a row
abbrev pub field_value : Accumulation → Row → Option Tree
field_value a d = value_of a.argument d

-- ---- sums

abbrev pub adds : Option Tree → ℤ
adds None = pos 0
adds (Some v) = addend v

abbrev pub int64s_in : Option Tree → ℕ
int64s_in None = 0
int64s_in (Some v) = cond (is_int64 v) 1 0

abbrev pub sum_over : Accumulation → Positioned → ℤ
sum_over a [] = pos 0
sum_over a (r ∷ rows) = adds (field_value a r.1) +ℤ sum_over a rows

abbrev pub int64s_over : Accumulation → Positioned → ℕ
int64s_over a [] = 0
int64s_over a (r ∷ rows) = int64s_in (field_value a r.1) + int64s_over a rows

-- ---- ranks

-- the rank of a value among others: for $max the greatest is first, otherwise the least
abbrev pub rank : Accumulator → Tree → Part
rank Max v = Down (value (canon v))
rank Sum v = Up (value (canon v))
rank Min v = Up (value (canon v))
rank Push v = Up (value (canon v))

-- rows with one more, if it has a value that isn't null: ordered by the value, and then by its position
abbrev pub with_ranked : Accumulator → Option Tree → PosTree → Row → Positioned → Positioned
with_ranked accumulator None p d rows = rows
with_ranked accumulator (Some v) p d rows = cond (is_null v) rows (put (rank accumulator v ∷ p) d rows)

abbrev pub without_ranked : Accumulator → Option Tree → PosTree → Positioned → Positioned
without_ranked accumulator None p rows = rows
without_ranked accumulator (Some v) p rows = cond (is_null v) rows (gone (rank accumulator v ∷ p) rows)

abbrev pub reranked : RowChange → Accumulation → PosTree → Row → Positioned → Positioned
reranked Added a p d rows = with_ranked a.accumulator (field_value a d) p d rows
reranked Removed a p d rows = without_ranked a.accumulator (field_value a d) p rows

abbrev pub ranked_over : Accumulation → Positioned → Positioned
ranked_over a [] = []
ranked_over a (r ∷ rows) = with_ranked a.accumulator (field_value a r.1) r.0 r.1 (ranked_over a rows)

-- the value of the first row, or null if there is none
abbrev pub value_of_first : Accumulation → Positioned → Tree
value_of_first a [] = null
value_of_first a (r ∷ rows) = or_null (field_value a r.1)

-- ---- values at positions

-- with one more before them, if there is one
abbrev pub with_first : PosTree → Option Tree → Values → Values
with_first p None vs = vs
with_first p (Some v) vs = (p, v) ∷ vs

abbrev pub pushed_over : Accumulation → Positioned → Values
pushed_over a [] = []
pushed_over a (r ∷ rows) = with_first r.0 (field_value a r.1) (pushed_over a rows)

-- with one more at its position, if there is one
abbrev pub with_pushed : PosTree → Option Tree → Values → Values
with_pushed p None vs = vs
with_pushed p (Some v) vs = put p v vs

abbrev pub repushed : RowChange → Accumulation → PosTree → Row → Values → Values
repushed Added a p d vs = with_pushed p (field_value a d) vs
repushed Removed a p d vs = gone p vs

-- without their positions
abbrev pub values_in : Values → List Tree
values_in vs = values_of vs

-- ---- the state over rows

abbrev pub state_by : Accumulator → Accumulation → Positioned → AccumulatorState
state_by Sum a rows = sum_state (sum_over a rows) (int64s_over a rows)
state_by Min a rows = extreme_state (ranked_over a rows)
state_by Max a rows = extreme_state (ranked_over a rows)
state_by Push a rows = array_state (pushed_over a rows)

abbrev pub state_over : Accumulation → Positioned → AccumulatorState
state_over a rows = state_by a.accumulator a rows

-- the state with one more row
abbrev pub state_with_row : Accumulation → PosTree → Row → AccumulatorState → AccumulatorState
state_with_row a p d (sum_state n int64s) = sum_state (n +ℤ adds (field_value a d)) (int64s + int64s_in (field_value a d))
state_with_row a p d (extreme_state rows) = extreme_state (with_ranked a.accumulator (field_value a d) p d rows)
state_with_row a p d (array_state vs) = array_state (with_pushed p (field_value a d) vs)

-- the state without a row that it has
abbrev pub state_without_row : Accumulation → PosTree → Row → AccumulatorState → AccumulatorState
state_without_row a p d (sum_state n int64s) = sum_state (n -ℤ adds (field_value a d)) (int64s - int64s_in (field_value a d))
state_without_row a p d (extreme_state rows) = extreme_state (without_ranked a.accumulator (field_value a d) p rows)
state_without_row a p d (array_state vs) = array_state (gone p vs)

abbrev pub state_after : RowChange → Accumulation → PosTree → Row → AccumulatorState → AccumulatorState
state_after Added a p d t = state_with_row a p d t
state_after Removed a p d t = state_without_row a p d t

-- at a place, if there is one
abbrev pub states_after_at : RowChange → PosTree → Row → ℕ → Accumulation → List AccumulatorState → List AccumulatorState
states_after_at change p d i a [] = []
states_after_at change p d zero a (t ∷ ts) = state_after change a p d t ∷ ts
states_after_at change p d (suc i) a (t ∷ ts) = t ∷ states_after_at change p d i a ts

-- for each field, from a place on
abbrev pub states_after_from : RowChange → PosTree → Row → ℕ → List Accumulation → List AccumulatorState → List AccumulatorState
states_after_from change p d i [] ts = ts
states_after_from change p d i (a ∷ fields) ts = states_after_from change p d (suc i) fields (states_after_at change p d i a ts)

-- for a row, if there is one
abbrev pub states_after_some : RowChange → PosTree → Option Row → List Accumulation → List AccumulatorState → List AccumulatorState
states_after_some change p None fields ts = ts
states_after_some change p (Some d) fields ts = states_after_from change p d 0 fields ts

-- ---- values of states

-- what the accumulator returns for the values
abbrev pub state_value : Accumulation → AccumulatorState → Tree
state_value a (sum_state n int64s) = spelled (nat_eq int64s 0) n
state_value a (extreme_state rows) = value_of_first a rows
state_value a (array_state vs) = array (elements_of (values_in vs))

-- the values of the states of fields
abbrev pub state_values : List Accumulation → List AccumulatorState → List Tree
state_values [] ts = []
state_values (a ∷ fields) [] = []
state_values (a ∷ fields) (t ∷ ts) = state_value a t ∷ state_values fields ts
