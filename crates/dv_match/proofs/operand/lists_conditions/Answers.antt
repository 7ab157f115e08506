use Rattle.std.proofs.Common.{◌∙◌, ◌&&◌, ap, sym, not}
use Rattle.dv_value.specs.View.{tree}
use Rattle.dv_match.specs.Parsing.{takes_filters}
use Rattle.dv_match.proofs.First.{first-condition, no-condition}
use Rattle.dv_match.proofs.operand.lists_conditions.Goals as goal

pub returns-then-begins_with_dollar : goal.returns-then-begins_with_dollar
returns-then-begins_with_dollar c =
    let name = c.in-Some.name.now in
    ap not c.takes_filters.ensures ∙ sym (first-condition c.args.document.now name (tree c.in-Some.field-0-1.now) c.in-Some.ensures ∙ ap (λ b. b && not (takes_filters name)) (sym c.if-begins_with_dollar.ensures))

pub returns-else-begins_with_dollar : goal.returns-else-begins_with_dollar
returns-else-begins_with_dollar c =
    let name = c.in-Some.name.now in
    c.if-begins_with_dollar.false ∙ sym (first-condition c.args.document.now name (tree c.in-Some.field-0-1.now) c.in-Some.ensures ∙ ap (λ b. b && not (takes_filters name)) (sym c.if-begins_with_dollar.ensures))

pub returns-in-None : goal.returns-in-None
returns-in-None c = sym (no-condition c.args.document.now c.in-None.ensures)
