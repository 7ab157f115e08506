use Rattle.std.proofs.Common.{◌∙◌, ap, map, take_all}
use Rattle.dv_gather.specs.Inner.GroupView.{accumulation}
use Rattle.dv_gather.specs.Inner.GroupStates.{states_of_none}
use Rattle.dv_gather.proofs.group_state.states_of_none.Goals as goal

pub returns : goal.returns
returns c = c.fields.invariant ∙ ap (λ l. states_of_none (map accumulation l)) (take_all c.fields.field-index c.args.fields.now c.fields-test.false)
