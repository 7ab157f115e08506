-- The values that are left are still to be pushed.
use Rattle.std.proofs.Common.{◌≡◌, ◌∷◌, ◌++◌, map}
use Rattle.dv_value.specs.View.{tree}
use Rattle.dv_gather.specs.Inner.GroupView.{accumulation}
use Rattle.dv_group.specs.Inner.AccumulatorStates.{state_values}
use Rattle.dv_group.specs.Inner.StateView.{state_seen}
use Rattle.dv_group.proofs.group_state.GroupState.values.Given as goal

abbrev pub invariant-fields : goal.invariant-fields
invariant-fields l =
    (goal.iterator-fields).can_next l.field-iterator × (goal.iterator-fields).is_finite l.field-iterator
    × (map tree l.values.items ++ state_values (map accumulation l.field-iterator.a.rest.now) (map state_seen l.field-iterator.b.rest.now) ≡ tree l.fn.key ∷ state_values (map accumulation l.fn.fields) (map state_seen l.self.states.items))
