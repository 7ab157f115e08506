-- The copies so far and the values that are left are all values.
use Rattle.std.proofs.Common.{◌≡◌, ◌++◌, map}
use Rattle.dv_value.specs.View.{tree}
use Rattle.dv_group.specs.Inner.AccumulatorStates.{values_in}
use Rattle.dv_group.specs.Inner.StateView.{values_seen}
use Rattle.dv_group.proofs.accumulator_state.copies_of.Given as goal

abbrev pub invariant-others : goal.invariant-others
invariant-others l = map tree l.copies.items ++ values_in (values_seen l.value-iterator) ≡ values_in (values_seen l.fn.values)
