-- If there is no first value, there is none.
use Rattle.std.proofs.Common.{rules, ◌≡◌, ◌∙◌, ap, map, sym, slice_get, None}
use Rattle.dv_value.specs.View.{tree}
use Rattle.dv_group.specs.Inner.AccumulatorStates.{values_in}
use Rattle.dv_group.specs.Inner.StateView.{values_seen}
use Rattle.dv_group.proofs.Under.{none-first}
use Rattle.dv_group.proofs.accumulator_state.copies_of.Goals as goal

pub returns-in_default : goal.returns-in_default
returns-in_default c =
    let none : slice_get c.args.values.now 0 ≡ None = search rules in
    ap (map tree) c.in_ok-copies.ensures.items ∙ sym (ap (λ vs. values_in (values_seen vs)) (none-first c.args.values.now none))
