use Rattle.std.proofs.Common.{rules, ◌≡◌, ◌∙◌, Some, ap, sym}
use Rattle.std.specs.Option.{option_map}
use Rattle.dv_value.specs.View.{tree}
use Rattle.dv_row.specs.RowValueView.{row_value}
use Rattle.dv_gather.specs.Inner.GroupView.{accumulation}
use Rattle.dv_group.specs.Inner.AccumulatorStates.{field_value, state_after, array_state}
use Rattle.dv_group.specs.Inner.StateView.{state_seen, values_seen}
use Rattle.dv_group.proofs.GroupStates.{summable-seen}
use Rattle.dv_group.proofs.Pushing.{pushed-after}
use Rattle.dv_group.proofs.accumulator_state.AccumulatorState.apply.Goals as goal
use Rattle.dv_group.proofs.accumulator_state.AccumulatorState.apply.Goals.{in-Added, in-Removed}

pub returns-after-change-clause-summable : goal.returns-after-change-clause-summable
returns-after-change-clause-summable c =
    let a = accumulation c.args.field.now in
    let d = c.args.row.now in
    let is : Some (row_value c.in-Some.value) ≡ field_value a d = sym (ap (option_map row_value) c.in-Some.is) ∙ c.in_ok-value-in-Sum.ensures in
    elim c.match-change.branch [
      | in-Added w ↦
          let same : Some (tree w.get.result.now) ≡ field_value a d = ap Some w.get.ensures ∙ is in
          summable-seen c.args.self.now c.in-Sum.sum a d (Some (tree w.get.result.now)) c.in-Sum.is same w.add.ensures.summable
      | in-Removed w ↦
          let same : Some (tree w.get-in-Removed.result.now) ≡ field_value a d = ap Some w.get-in-Removed.ensures ∙ is in
          summable-seen c.args.self.now c.in-Sum.sum a d (Some (tree w.get-in-Removed.result.now)) c.in-Sum.is same w.remove.ensures.summable
    ]

pub returns-in_ok-values-in-Array-clause-state : goal.returns-in_ok-values-in-Array-clause-state
returns-in_ok-values-in-Array-clause-state c =
    let a = accumulation c.args.field.now in
    let was : c.replace-some-in-Array.result ≡ c.in-Array.values = search rules in
    ap array_state c.in_ok-values-in-Array.ensures
    ∙ sym (pushed-after c.args.change a c.args.pos.now c.args.row.now (values_seen c.replace-some-in-Array.result))
    ∙ ap (state_after c.args.change a c.args.pos.now c.args.row.now) (ap (λ vs. array_state (values_seen vs)) was ∙ ap state_seen (sym c.in-Array.is))
