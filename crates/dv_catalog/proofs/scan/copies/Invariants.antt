use Rattle.std.proofs.Common.{◌≡◌, ◌++◌, drop}
use Rattle.dv_pipe.specs.Sources.{rows_referred}
use Rattle.dv_catalog.proofs.scan.copies.Given as goal

-- the copies so far and the rows that are left
abbrev pub invariant-rows : goal.invariant-rows
invariant-rows l = l.copies.items ++ rows_referred (drop l.row-index l.rows) ≡ rows_referred l.fn.rows
