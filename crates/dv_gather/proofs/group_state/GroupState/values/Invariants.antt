-- The values of the states that are left are still to be computed.
use Rattle.std.proofs.Common.{◌≡◌, ◌++◌, map}
use Rattle.std.specs.Vec.Iter.{into_iter_items}
use Rattle.dv_value.specs.View.{tree}
use Rattle.dv_gather.specs.Inner.GroupStates.{row_values}
use Rattle.dv_gather.specs.Inner.AccumulatorStates.{state_value}
use Rattle.dv_gather.specs.Inner.StateView.{group_state_seen, state_seen}
use Rattle.dv_gather.proofs.group_state.GroupState.values.Given as goal

abbrev pub invariant-states : goal.invariant-states
invariant-states l = map tree l.values.items ++ map state_value (map state_seen (into_iter_items l.state-iterator)) ≡ row_values (group_state_seen l.fn.self)
