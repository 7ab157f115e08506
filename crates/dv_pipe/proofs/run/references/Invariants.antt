use Rattle.std.proofs.Common.{◌≡◌, take}
use Rattle.dv_pipe.specs.Sources.{rows_referred}
use Rattle.dv_pipe.proofs.run.references.Given as goal

abbrev pub invariant-rows : goal.invariant-rows
invariant-rows l = rows_referred l.lent.items ≡ take l.row-index l.rows
