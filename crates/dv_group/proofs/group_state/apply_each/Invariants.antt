-- The states that are left are still to be changed, and are as they were.
use Rattle.std.proofs.Common.{◌≡◌, map, drop}
use Rattle.dv_gather.specs.Inner.GroupView.{accumulation}
use Rattle.dv_group.specs.Inner.SumBounds.{AreSummableIn, HaveRoom}
use Rattle.dv_group.specs.Inner.AccumulatorStates.{states_after_from}
use Rattle.dv_group.specs.Inner.StateView.{state_seen}
use Rattle.dv_group.proofs.group_state.apply_each.Given as goal

abbrev pub invariant-fields : goal.invariant-fields
invariant-fields l = record {
  states : states_after_from l.change l.pos l.row l.place (map accumulation (drop l.place l.fields)) (map state_seen l.states.items) ≡ states_after_from l.change l.pos l.row 0 (map accumulation l.fields) (map state_seen l.fn.states.items);
  same : drop l.place (map state_seen l.states.items) ≡ drop l.place (map state_seen l.fn.states.items);
  room : HaveRoom l.change (map accumulation (drop l.place l.fields)) l.pos l.row (drop l.place (map state_seen l.fn.states.items));
  summable : AreSummableIn (drop l.place (map state_seen l.fn.states.items)) (map accumulation (drop l.place l.fields)) l.row → AreSummableIn (map state_seen l.fn.states.items) (map accumulation l.fields) l.row;
}
