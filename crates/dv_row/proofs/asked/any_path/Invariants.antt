use Rattle.std.proofs.Common.{◌≡◌, false, take}
use Rattle.std.specs.List.{list_any}
use Rattle.dv_row.specs.ProjectParsing.{one_begins}
use Rattle.dv_row.proofs.asked.any_path.Given as goal

abbrev pub invariant-others : goal.invariant-others
invariant-others l = list_any (one_begins l.path) (take l.other-index l.others) ≡ false
