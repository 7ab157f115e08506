-- A part of an expression is smaller than what it is in.
use Rattle.std.specs.Prelude.{◌≤◌, List, [], ◌∷◌, map}
use Rattle.std.proofs.Common.{arith}
use denote.Param.Weighed.{most}
use Rattle.dv_row.specs.declared.expr.Expr.{Expr}
use Rattle.dv_row.specs.declared.expr.Expr.TheVariants.{Path, Constant, Document}
use Rattle.dv_row.specs.declared.expr.ComputedField.{ComputedField}
use Rattle.dv_row.specs.declared.expr.Computed.TheDeep.{deep-Expr, deep-ComputedField}
use Rattle.dv_row.specs.Expressions.{expression_weight, computed_of, computed_weight}
use Rattle.dv_row.specs.ExpressionView.{expression_seen, named}

expression_falls : (e : Expr) → deep-Expr e ≤ expression_weight (expression_seen e)
expression_falls (Path path) = omega arith
expression_falls (Constant v) = omega arith
expression_falls (Document es) = omega arith

pub computed_fall : (fs : List ComputedField) → most deep-ComputedField fs ≤ computed_weight (computed_of (map named fs))
computed_fall [] = omega arith
computed_fall (f ∷ fs) = omega (arith, expression_falls f.expr, computed_fall fs)
