use Rattle.std.proofs.Common.{◌∙◌, [], ap, map, take_all}
use Rattle.dv_gather.specs.Inner.GroupView.{accumulation}
use Rattle.dv_group.specs.Inner.AccumulatorStates.{state_over}
use Rattle.dv_group.proofs.group_state.states_of_none.Goals as goal

pub returns : goal.returns
returns c = c.fields.invariant ∙ ap (λ fields. map (λ a. state_over a []) (map accumulation fields)) (take_all c.fields.field-index c.args.fields.now c.fields-test.false)
