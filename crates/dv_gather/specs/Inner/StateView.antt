-- What the state of an accumulator and that of a group stand for.
use Rattle.std.specs.Prelude.{List, [], ◌∷◌, map, Option, Some, None}
use Rattle.dv_value.specs.Tree.{Tree}
use Rattle.dv_value.specs.View.{tree}
use Rattle.dv_value.specs.declared.value.Value.{Value}
use Rattle.dv_order.specs.Key.{KeyTree}
use Rattle.dv_gather.specs.declared.sum_state.SumState as sums
use Rattle.dv_gather.specs.declared.accumulator_state.AccumulatorState as memory
use Rattle.dv_gather.specs.declared.accumulator_state.AccumulatorState.TheVariants.{Sum, Extreme, Array}
use Rattle.dv_gather.specs.declared.group_state.GroupState as stored
use Rattle.dv_gather.specs.Inner.GroupStates.{GroupState}
use Rattle.dv_gather.specs.Inner.AccumulatorStates.{AccumulatorState, sum_state, extreme_state, array_state}

abbrev pub sum_state_seen : sums.SumState → AccumulatorState
sum_state_seen s = sum_state s.total s.narrow

abbrev pub state_seen : memory.AccumulatorState → AccumulatorState
state_seen (Sum s) = sum_state_seen s
state_seen (Extreme e v) = extreme_state e (tree v)
state_seen (Array vs) = array_state (map tree vs.items)

abbrev pub keys_seen : Option Value → List Tree
keys_seen None = []
keys_seen (Some v) = tree v ∷ []

abbrev pub group_state_seen : stored.GroupState → GroupState
group_state_seen t = (keys_seen t.key, map state_seen t.states.items)

abbrev pub groups_seen : List (KeyTree × stored.GroupState) → List (KeyTree × GroupState)
groups_seen = map (λ e. (e.0, group_state_seen e.1))
