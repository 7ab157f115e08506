use Rattle.std.proofs.Common.{◌≡◌, map, take}
use Rattle.dv_gather.specs.Inner.GroupView.{accumulation}
use Rattle.dv_gather.specs.Inner.GroupStates.{states_of_none}
use Rattle.dv_gather.specs.Inner.StateView.{state_seen}
use Rattle.dv_gather.proofs.group_state.states_of_none.Given as goal

abbrev pub invariant-fields : goal.invariant-fields
invariant-fields l = map state_seen l.states.items ≡ states_of_none (map accumulation (take l.field-index l.fields))
