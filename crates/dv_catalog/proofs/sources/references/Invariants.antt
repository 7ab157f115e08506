use Rattle.std.proofs.Common.{◌≡◌, ◌++◌}
use Rattle.dv_pipe.specs.Sources.{rows_referred}
use Rattle.dv_catalog.proofs.sources.references.Given as goal

-- the references so far, and the rows that are still to come
abbrev pub invariant-rows : goal.invariant-rows
invariant-rows l = rows_referred l.references.items ++ l.row-iterator ≡ l.fn.rows
