-- What was put so far, and what is left, are all.
use Rattle.std.proofs.Common.{◌≡◌, ◌++◌}
use Rattle.dv_views.specs.Inner.Filled.{firsts_of}
use Rattle.dv_views.proofs.making.firsts_of_rows.Given as goal

abbrev pub invariant-rows : goal.invariant-rows
invariant-rows l = l.firsts.items ++ firsts_of l.pos-iterator ≡ firsts_of l.fn.rows.rows.entries
