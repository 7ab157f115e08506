use Rattle.std.proofs.Common.{◌∙◌, sym}
use Rattle.dv_value.specs.View.{tree}
use Rattle.dv_match.proofs.operand.lists_operators.Goals as goal
use Rattle.dv_match.specs.Inner.FilterLaws.{first-operator, no-operator}

pub returns-in-Some : goal.returns-in-Some
returns-in-Some c = c.begins_with_dollar.ensures ∙ sym (first-operator c.args.document.now c.in-Some.name.now (tree c.in-Some.field-0-1.now) c.in-Some.ensures)

pub returns-in-None : goal.returns-in-None
returns-in-None c = sym (no-operator c.args.document.now c.in-None.ensures)
