use Rattle.std.proofs.Common.{◌≡◌, drop}
use Rattle.dv_cursor.proofs.rows.Rows.skip.Given as goal

abbrev pub invariant-rows : goal.invariant-rows
invariant-rows l = l.self-inside.rows.items ≡ drop l.counter l.fn.self
