-- What is put so far, and what is left to put, are together all that is put.
use Rattle.std.proofs.Common.{◌≡◌, ◌++◌}
use Rattle.dv_change.specs.Inner.Beginning.{BeginsWith}
use Rattle.dv_change.specs.Inner.Told.{puts_told}
use Rattle.dv_change.proofs.handing.push_puts.Given as goal

abbrev pub invariant-others : goal.invariant-others
invariant-others l = record {
  out : l.out.items ++ puts_told l.fn.old l.pos-iterator ≡ l.fn.out.items ++ puts_told l.fn.old l.fn.new;
  begins : BeginsWith l.out.items l.fn.out.items;
}
