use Rattle.std.proofs.Common.{◌≡◌, map, take}
use Rattle.dv_gather.specs.Lookups.{joined_row}
use Rattle.dv_pipe.specs.Sources.{rows_referred}
use Rattle.dv_catalog.proofs.behind.joined.Given as goal

-- the rows so far, joined
abbrev pub invariant-rows : goal.invariant-rows
invariant-rows l = l.joined.items ≡ map (joined_row l.join-inside.lookup.now (rows_referred l.join-inside.documents.now)) (rows_referred (take l.row-index l.fn.rows))
