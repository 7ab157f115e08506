-- The changes so far follow the others.
use Rattle.std.proofs.Common.{◌≡◌, ◌++◌}
use Rattle.std.specs.Vec.Iter.{into_iter_items}
use Rattle.dv_change.specs.Inner.Beginning.{BeginsWith}
use Rattle.dv_change.proofs.chain.push_all.Given as goal

abbrev pub invariant-changes : goal.invariant-changes
invariant-changes l = record {
  out : l.out.items ++ into_iter_items l.change-iterator ≡ l.fn.out.items ++ l.fn.changes.items;
  begins : BeginsWith l.out.items l.fn.out.items;
}
