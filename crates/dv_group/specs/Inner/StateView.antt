-- What the state of an accumulator stands for.
use Rattle.std.specs.Prelude.{List, map}
use Rattle.dv_value.specs.declared.value.Value.{Value}
use Rattle.dv_value.specs.View.{tree}
use Rattle.dv_change.specs.Positions.{PosTree}
use Rattle.dv_group.specs.declared.accumulator_state.AccumulatorState as memory
use Rattle.dv_group.specs.declared.accumulator_state.AccumulatorState.TheVariants.{Sum, Extreme, Array}
use Rattle.dv_group.specs.declared.sum_state.SumState.{SumState}
use Rattle.dv_group.specs.Inner.AccumulatorStates.{AccumulatorState, Values, array_state, extreme_state, sum_state}

abbrev pub sum_state_seen : SumState → AccumulatorState
sum_state_seen s = sum_state s.total s.int64s

abbrev pub values_seen : List (PosTree × Value) → Values
values_seen values = map (λ e. (e.0, tree e.1)) values

abbrev pub state_seen : memory.AccumulatorState → AccumulatorState
state_seen (Sum s) = sum_state_seen s
state_seen (Extreme rows) = extreme_state rows
state_seen (Array values) = array_state (values_seen values)
