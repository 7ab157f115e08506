use Rattle.std.proofs.Common.{[], ◌∷◌, ◌++◌, drop}
use Rattle.dv_row.proofs.Standing.{IsLeft}
use Rattle.dv_row.proofs.row_value.standing.Given as goal

abbrev pub invariant-components : goal.invariant-components
invariant-components l = IsLeft l.path l.document (drop l.component-index l.way ++ l.last ∷ []) l.inner
