use Rattle.std.proofs.Common.{◌≡◌, ◌<◌, false}
use Rattle.std.specs.List.{AllAdjacentBelow}
use Rattle.dv_row.specs.ProjectParsing.{one_begins}
use Rattle.dv_row.proofs.conflict.neighbours_conflict.Given as goal

abbrev pub invariant-paths : goal.invariant-paths
invariant-paths l = (0 < l.later) × AllAdjacentBelow (λ p q. one_begins p q ≡ false) l.paths l.later
