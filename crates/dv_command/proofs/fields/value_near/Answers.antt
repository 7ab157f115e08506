use Rattle.std.proofs.Common.{sym, ◌∙◌}
use Rattle.dv_value.specs.View.{tree}
use Rattle.dv_command.proofs.Near.{near}
use Rattle.dv_command.proofs.fields.value_near.Goals as goal

pub returns-in-Some : goal.returns-in-Some
returns-in-Some c =
    sym (near c.args.fields.now c.args.place (c.in-Some.there.now, tree c.in-Some.value.now) c.args.name.now c.law_named.ensures (sym c.in-Some.ensures) (sym c.eq.ensures ∙ c.if-eq.true))
