-- The rows from the place on are placed.
use Rattle.std.proofs.Common.{◌≡◌, drop}
use Rattle.dv_change.specs.Changes.{in_row_order}
use Rattle.dv_flow.specs.Inner.Unwinding.{rows_unmarked}
use Rattle.dv_flow.proofs.unwind.place_rows.Given as goal

abbrev pub invariant-rows : goal.invariant-rows
invariant-rows l = l.placed ≡ in_row_order (rows_unmarked l.marked l.place l.pos (drop l.place l.rows))
