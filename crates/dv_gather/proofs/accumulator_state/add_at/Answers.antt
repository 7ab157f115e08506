use Rattle.dv_row.specs.RowValueView.{row_value}
use Rattle.dv_gather.specs.Inner.SumBounds.{most}
use Rattle.dv_gather.proofs.AccumulatorStates.{value-added, no-state}
use Rattle.dv_gather.proofs.Bounded.{at-place, one-more, none-more}
use Rattle.dv_gather.proofs.accumulator_state.add_at.Goals as goal

pub add-requires : goal.add-requires
add-requires c = at-place c.args.place most c.args.states.now c.index-states-place.result c.if-place-states.true c.requires

pub returns-in_ok-add-clause-states : goal.returns-in_ok-add-clause-states
returns-in_ok-add-clause-states c = value-added (row_value c.args.value) c.args.place c.args.states.now c.index-states-place.result c.add.new.self c.if-place-states.true c.in_ok-add.ensures.state

pub returns-in_ok-add-clause-within : goal.returns-in_ok-add-clause-within
returns-in_ok-add-clause-within c = λ count h.
    let ts = c.args.states.now in
    one-more c.args.place count ts c.add.new.self (c.in_ok-add.ensures.within count (at-place c.args.place count ts c.index-states-place.result c.if-place-states.true h)) h

pub returns-else-place-states-clause-states : goal.returns-else-place-states-clause-states
returns-else-place-states-clause-states c = no-state (row_value c.args.value) c.args.place c.args.states.now c.if-place-states.false

pub returns-else-place-states-clause-within : goal.returns-else-place-states-clause-within
returns-else-place-states-clause-within c = λ count h. none-more c.args.place count _ h
