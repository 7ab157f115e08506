-- The changes that are left, applied to the rows so far, give what all changes give; and what is appended so far, followed by them,
-- is all that is appended.
use Rattle.std.proofs.Common.{◌≡◌, ◌++◌}
use Rattle.std.specs.Vec.Iter.{into_iter_items}
use Rattle.dv_change.specs.Changes.{with_changes}
use Rattle.dv_change.specs.Inner.Beginning.{BeginsWith}
use Rattle.dv_change.specs.Inner.Changes.{IsPositioned}
use Rattle.dv_change.specs.Inner.Told.{changes_told}
use Rattle.dv_change.proofs.told_rows.put_all.Given as goal

abbrev pub invariant-all : goal.invariant-all
invariant-all l =
    let rest = into_iter_items l.taken-iterator in
    record {
      rows : with_changes l.rows.entries (changes_told rest) ≡ with_changes l.fn.rows.entries (changes_told l.fn.all.items);
      positioned : IsPositioned l.rows.entries;
      told : l.told.items ++ rest ≡ l.fn.told.items ++ l.fn.all.items;
      begins : BeginsWith l.told.items l.fn.told.items;
    }
