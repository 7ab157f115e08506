-- The changes so far follow the others.
use Rattle.std.proofs.Common.{◌≡◌, ◌++◌}
use Rattle.std.specs.Vec.Iter.{into_iter_items}
use Rattle.dv_change.specs.Inner.Beginning.{BeginsWith}
use Rattle.dv_change.specs.Inner.Told.{changes_told}
use Rattle.dv_change.proofs.keeping.push_changes.Given as goal

abbrev pub invariant-told : goal.invariant-told
invariant-told l = record {
  out : l.out.items ++ changes_told (into_iter_items l.taken-iterator) ≡ l.fn.out.items ++ changes_told l.fn.told.items;
  begins : BeginsWith l.out.items l.fn.out.items;
}
