use Rattle.std.proofs.Common.{◌≡◌, ◌++◌, take}
use Rattle.dv_row.specs.Inner.UnwoundRows.{rows_of_origin}
use Rattle.dv_row.proofs.unwind.Unwind.push_rows.Given as goal

abbrev pub invariant-places : goal.invariant-places
invariant-places l = l.rows.items ≡ l.initial.rows.items ++ take l.place (rows_of_origin l.unwound-inside.origin)
