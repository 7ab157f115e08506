use Rattle.std.proofs.Common.{drop}
use Rattle.dv_pipe.specs.Sources.{rows_referred}
use Rattle.dv_catalog.proofs.Scanned.{IsSorting}
use Rattle.dv_catalog.proofs.scan.sorted.Given as goal

-- the rows that the sorter has received so far
abbrev pub invariant-rows : goal.invariant-rows
invariant-rows l = IsSorting l.sort l.fn.most l.sorter (rows_referred (drop l.row-index l.rows)) (rows_referred l.fn.rows)
