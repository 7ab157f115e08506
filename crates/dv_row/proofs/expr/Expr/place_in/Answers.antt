use Rattle.std.proofs.Common.{◌≡◌, ◌∙◌, ◌∷◌, [], ap, sym, arith}
use Rattle.dv_value.specs.Names.{value_under}
use Rattle.dv_path.specs.Expression.{expr}
use Rattle.dv_row.specs.Expressions.{value_of}
use Rattle.dv_row.specs.ExpressionView.{expression_seen}
use Rattle.dv_row.proofs.Items.{drop-read, drop-past}
use Rattle.dv_row.proofs.Standing.{alone-leads, shown-at}
use Rattle.dv_row.proofs.expr.Expr.place_in.Goals as goal

pub returns-in-len1-clause-value : goal.returns-in-len1-clause-value
unfolding value_of
returns-in-len1-clause-value c =
    let row = c.args.row.now in
    let components = c.components.result.now in
    let only = c.only-item.result in
    let alone : components ≡ only ∷ [] = drop-read components 0 only (omega arith) c.only-item.is ∙ ap (λ l. only ∷ l) (drop-past components 1 (omega arith)) in
    let leads : value_under c.as_str.result.now row ≡ value_of (expression_seen c.args.self.now) row =
    ap (λ n. value_under n row) c.as_str.ensures.name ∙ alone-leads only row ∙ ap (expr row) (sym alone ∙ c.components.ensures.components) ∙ ap (λ e. value_of (expression_seen e) row) (sym c.in-Path.is) in
    shown-at c.place_of.result (value_under c.as_str.result.now row) (value_of (expression_seen c.args.self.now) row) row c.place_of.ensures.value leads
