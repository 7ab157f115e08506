use Rattle.std.proofs.Common.{◌≡◌, ◌++◌}
use Rattle.dv_row.proofs.expr.copy_beside.Given as goal

-- the copy is followed by the fields that are still to be copied
abbrev pub invariant-fields : goal.invariant-fields
invariant-fields l = l.copy ++ l.name-iterator ≡ l.document
