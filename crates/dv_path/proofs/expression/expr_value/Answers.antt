use Rattle.std.proofs.Common.{◌∙◌, sym}
use Rattle.dv_path.proofs.Gathered.{expr-first}
use Rattle.dv_path.proofs.expression.expr_value.Goals as goal
use Rattle.dv_value.specs.Inner.ListLaws.{positive}

pub returns : goal.returns
returns c =
    let names = c.components-components.result.now in
    let path = c.components-components.ensures.components in
    let is = expr-first names c.args.document.now c.index-components-0.result (positive names (λ none. c.components-components.ensures.some (sym path ∙ none))) c.index-components-0.is in
    rw (← path, ← is, ← c.behind.ensures) c.enter.ensures
