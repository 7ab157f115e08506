use Rattle.dv_gather.specs.Inner.GroupView.{accumulation}
use Rattle.dv_group.proofs.Places.{after-here, after-nowhere, summable-here, summable-nowhere, room-at}
use Rattle.dv_group.proofs.group_state.apply_at.Goals as goal

pub apply-requires : goal.apply-requires
apply-requires c = room-at c.args.change (accumulation c.args.field.now) c.args.pos.now c.args.row.now c.args.place c.args.states.now c.index-states-place.result c.if-place-states.true c.requires

pub returns-in_ok-apply-clause-states : goal.returns-in_ok-apply-clause-states
returns-in_ok-apply-clause-states c =
    after-here c.args.change (accumulation c.args.field.now) c.args.pos.now c.args.row.now c.args.place c.args.states.now c.index-states-place.result c.apply.new.self c.if-place-states.true c.in_ok-apply.ensures.state

pub returns-in_ok-apply-clause-summable : goal.returns-in_ok-apply-clause-summable
returns-in_ok-apply-clause-summable c = summable-here (accumulation c.args.field.now) c.args.row.now c.args.place c.args.states.now c.index-states-place.result c.if-place-states.true c.in_ok-apply.ensures.summable

pub returns-else-place-states-clause-states : goal.returns-else-place-states-clause-states
returns-else-place-states-clause-states c = after-nowhere c.args.change (accumulation c.args.field.now) c.args.pos.now c.args.row.now c.args.place c.args.states.now c.if-place-states.false

pub returns-else-place-states-clause-summable : goal.returns-else-place-states-clause-summable
returns-else-place-states-clause-summable c = summable-nowhere (accumulation c.args.field.now) c.args.row.now c.args.place c.args.states.now c.if-place-states.false
