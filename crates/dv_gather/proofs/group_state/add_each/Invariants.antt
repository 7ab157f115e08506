-- What is left is still to be added.
use Rattle.std.proofs.Common.{◌≡◌, ℕ, map, drop}
use Rattle.dv_gather.specs.Inner.SumBounds.{AreWithin}
use Rattle.dv_gather.specs.Inner.GroupView.{accumulation}
use Rattle.dv_gather.specs.Inner.GroupStates.{with_values, with_values_from}
use Rattle.dv_gather.specs.Inner.StateView.{state_seen}
use Rattle.dv_gather.proofs.group_state.add_each.Given as goal

abbrev pub invariant-fields : goal.invariant-fields
invariant-fields l = record {
  states : with_values_from l.place (map accumulation (drop l.place l.fields)) l.row (map state_seen l.states.items) ≡ with_values (map accumulation l.fields) l.row (map state_seen l.fn.states.items);
  within : (count : ℕ) → AreWithin 0 count (map state_seen l.fn.states.items) → AreWithin l.place count (map state_seen l.states.items);
}
