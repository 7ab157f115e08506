use Rattle.std.proofs.Common.{◌≡◌, false, not, take}
use Rattle.std.specs.List.{list_any}
use Rattle.dv_row.specs.ProjectParsing.{is_id_path}
use Rattle.dv_row.proofs.asked.Asked.excludes.Given as goal

abbrev pub invariant-paths : goal.invariant-paths
invariant-paths l = list_any (λ p. not (is_id_path p)) (take l.path-index l.path-items) ≡ false
