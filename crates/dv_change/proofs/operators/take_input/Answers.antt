-- One change goes through all operators.
use Rattle.std.proofs.Common.{◌≡◌, ◌∙◌, ◌∷◌, [], ap, subst, sym}
use Rattle.dv_change.specs.declared.input.Input.{Input}
use Rattle.dv_change.specs.Inner.Answered.{ok-one}
use Rattle.dv_change.specs.Inner.Fed.{IsPassedIn, rows_in}
use Rattle.dv_change.specs.Inner.Told.{with_old}
use Rattle.dv_change.proofs.operators.take_input.Goals as goal

pub returns-in-Left-clause-passed : goal.returns-in-Left-clause-passed
returns-in-Left-clause-passed g c =
    ok-one c.take_one.result c.take_one.ensures.passed (λ passed forms rows change held comes is.
    let told : c.args.taken ≡ with_old rows change = comes.told ∙ ap (λ i. with_old (rows_in i forms rows) change) c.in-Left.is in
    let all = passed forms rows (change ∷ []) held (comes.exact, tt) (ap (λ t. t ∷ []) told) is in
    subst (λ (i : Input). IsPassedIn {O = g.row.O.Denot} g.O.Operator.makes g.O.Operator.holds i change c.take_one.new.operators forms rows c.args.out.now.items c.take_one.new.out.items c.args.ticks.now c.take_one.new.ticks) (sym c.in-Left.is)
    (record { held = all.held; out = all.out; ticks = all.ticks; leads = all.leads }))
