-- The changes that are left, applied to the rows so far, give what all changes give.
use Rattle.std.proofs.Common.{◌≡◌}
use Rattle.std.specs.Vec.Iter.{into_iter_items}
use Rattle.dv_change.specs.Changes.{with_changes}
use Rattle.dv_change.specs.Inner.Changes.{IsPositioned}
use Rattle.dv_change.specs.Inner.Told.{changes_told}
use Rattle.dv_change.proofs.told_rows.put_each.Given as goal

abbrev pub invariant-all : goal.invariant-all
invariant-all l = record {
  rows : with_changes l.rows.entries (changes_told (into_iter_items l.taken-iterator)) ≡ with_changes l.fn.rows.entries (changes_told l.fn.all.items);
  positioned : IsPositioned l.rows.entries;
}
