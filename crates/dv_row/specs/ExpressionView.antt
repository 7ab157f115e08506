-- What an expression in memory represents.
use Rattle.std.specs.Prelude.{ℕ, List}
use Rattle.dv_value.specs.View.{tree}
use Rattle.dv_row.specs.declared.expr.Expr.{Expr}
use Rattle.dv_row.specs.declared.expr.Expr.TheVariants.{Path, Constant, Document}
use Rattle.dv_row.specs.declared.expr.ComputedField.{ComputedField}
use Rattle.dv_row.specs.Expressions.{Expression, at_path, constant, made}

-- the expression that an expression in memory represents
abbrev pub expression_seen : Expr → Expression
expression_seen (Path path) = at_path path
expression_seen (Constant v) = constant (tree v)
expression_seen (Document es) = made es

-- a field in memory as a name and an expression
abbrev pub named : ComputedField → List ℕ × Expression
named f = (f.name, expression_seen f.expr)
