use Rattle.std.proofs.Common.{◌≡◌, ◌∙◌, ◌∷◌, Some, ap, map, sym}
use Rattle.dv_value.specs.View.{tree}
use Rattle.dv_gather.specs.Grouping.{key_in}
use Rattle.dv_gather.specs.Inner.GroupStates.{row_of_values}
use Rattle.dv_group.specs.Inner.AccumulatorStates.{state_values}
use Rattle.dv_group.specs.Inner.StateView.{state_seen}
use Rattle.dv_group.proofs.GroupStates.{row-is-shown}
use Rattle.dv_group.proofs.group_state.GroupState.row.Goals as goal

pub returns : goal.returns
returns c =
    let g = c.args.group.now in
    let rows = c.args.self.now.members in
    let states = map state_seen c.args.self.now.states.items in
    let key : tree c.in_ok-key.key ≡ key_in g c.in-Some.first.now = c.in_ok-key.ensures ∙ c.in_ok-key_in.ensures in
    ap Some (c.in_ok-row.ensures ∙ (λ i. row_of_values (c.fields-fields.ensures i) ((c.in_ok-values.ensures ∙ (λ i. key i ∷ state_values (c.fields-fields.ensures i) states)) i)))
    ∙ row-is-shown g rows (c.in-Some.field-0-0.now, c.in-Some.first.now) states c.requires.positioned (sym c.in-Some.ensures) c.requires.states
