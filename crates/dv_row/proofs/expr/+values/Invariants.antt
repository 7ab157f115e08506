use Rattle.std.proofs.Common.{◌≡◌, ◌+◌, ◌*◌, drop, map}
use Rattle.dv_row.specs.Expressions.{expression_weight, computed_weight, computed_of, with_computed}
use Rattle.dv_row.specs.ExpressionView.{expression_seen, named}
use Rattle.dv_row.proofs.expr.+values.Given as goal

abbrev pub decreases-Expr::value : goal.decreases-Expr::value
decreases-Expr::value l = 2 * expression_weight (expression_seen l.self.now)

abbrev pub decreases-Computed::push_values : goal.decreases-Computed::push_values
decreases-Computed::push_values l = 2 * computed_weight l.self.now + 1

abbrev pub invariant-Computed::push_values-fields : goal.invariant-Computed::push_values-fields
invariant-Computed::push_values-fields l = with_computed (computed_of (map named (drop l.field-index l.field-items))) l.row l.document ≡ with_computed (computed_of (map named l.field-items)) l.row l.initial.document
