-- The changes that are left lead from the rows so far to the rows after all changes.
use Rattle.std.proofs.Common.{◌≡◌}
use Rattle.std.specs.Vec.Iter.{into_iter_items}
use Rattle.dv_order.specs.Key.{KeyTree}
use Rattle.dv_group.specs.Inner.Members.{AreLiveGroups, group_members, moved_all}
use Rattle.dv_group.proofs.groups.follow_all.Given as goal

abbrev pub invariant-all : goal.invariant-all
invariant-all l = record {
  rows : (k : KeyTree) → moved_all l.fn.group k (group_members k l.groups.entries) (into_iter_items l.taken-iterator) ≡ moved_all l.fn.group k (group_members k l.fn.groups.entries) l.fn.all.items;
  sound : AreLiveGroups l.fn.group l.groups.entries;
}
