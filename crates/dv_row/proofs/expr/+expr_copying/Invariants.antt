use Rattle.std.proofs.Common.{◌≡◌, map, take}
use Rattle.dv_row.specs.ExpressionView.{named}
use Rattle.dv_row.proofs.expr.+expr_copying.Given as goal

abbrev pub invariant-Computed::try_clone-loop-field : goal.invariant-Computed::try_clone-loop-field
invariant-Computed::try_clone-loop-field l = map named l.fields.items ≡ map named (take l.field-index l.field-items)
