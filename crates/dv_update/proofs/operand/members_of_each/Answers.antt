use Rattle.std.proofs.Common.{◌∙◌, inr, sym}
use Rattle.dv_value.specs.View.{tree}
use Rattle.dv_update.proofs.Items.{each-one, each-other, each-many, each-none}
use Rattle.dv_update.proofs.operand.members_of_each.Goals as goal
use Rattle.dv_update.proofs.operand.members_of_each.Goals.{in_default-via-in-Some+then-len-eq1+else-eq, in_default-via-in-Some+else-len-eq1, in_default-via-in_default}

pub returns-in-Some : goal.returns-in-Some
returns-in-Some c =
    rw (each-one c.args.document.now c.in-Some.name.now (tree c.in-Some.operand.now) c.in-Some.ensures (sym c.len.ensures.len ∙ c.if-len-eq1.true) c.if-eq.ensures) c.members.ensures

pub returns-in_default : goal.returns-in_default
returns-in_default c =
    elim c.in_default.branch [
      | in_default-via-in-Some+then-len-eq1+else-eq w ↦ inr (each-other c.args.document.now w.in-Some.name.now (tree w.in-Some.operand.now) w.in-Some.ensures (sym w.len.ensures.len ∙ w.if-len-eq1.true) w.if-eq.ensures)
      | in_default-via-in-Some+else-len-eq1 w ↦ inr (each-many c.args.document.now (λ one. w.if-len-eq1.false (w.len.ensures.len ∙ one)))
      | in_default-via-in_default w ↦ inr (each-none c.args.document.now w.in_default.ensures)
    ]
