use Rattle.std.proofs.Common.{◌≡◌, ◌++◌, length}
use Rattle.dv_pipe.specs.Sources.{rows_referred}
use Rattle.dv_catalog.specs.Scan.{matching}
use Rattle.dv_catalog.proofs.Scanned.{IsWithin}
use Rattle.dv_catalog.proofs.standing.first_matching.Given as goal

-- the rows found so far, and those that match among the others
abbrev pub invariant-rows : goal.invariant-rows
invariant-rows l = record {
  whole : rows_referred l.found.items ++ matching l.filter l.row-iterator ≡ matching l.filter l.fn.rows;
  fewer : IsWithin (length l.found.items) l.most;
}
