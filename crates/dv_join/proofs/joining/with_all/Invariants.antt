-- The rows put so far, and those that are left to put, are all rows.
use Rattle.std.proofs.Common.{◌≡◌}
use Rattle.dv_join.specs.Inner.Listed as listed
use Rattle.dv_join.proofs.joining.with_all.Given as goal

abbrev pub invariant-others : goal.invariant-others
invariant-others l = listed.with_each_row l.all l.pos-iterator ≡ listed.with_each_row l.fn.rows l.fn.others
