use Rattle.std.proofs.Common.{◌≡◌, [], map, take}
use Rattle.dv_gather.specs.Inner.GroupView.{accumulation}
use Rattle.dv_group.specs.Inner.AccumulatorStates.{state_over}
use Rattle.dv_group.specs.Inner.StateView.{state_seen}
use Rattle.dv_group.proofs.group_state.states_of_none.Given as goal

abbrev pub invariant-fields : goal.invariant-fields
invariant-fields l = map state_seen l.states.items ≡ map (λ a. state_over a []) (map accumulation (take l.field-index l.fields))
