-- The rows so far, with those of the groups that are left, are those of all groups.
use Rattle.std.proofs.Common.{◌≡◌, []}
use Rattle.std.specs.Map.{keys_of}
use Rattle.dv_order.specs.Key.{KeyTree}
use Rattle.dv_change.specs.Changes.{Positioned}
use Rattle.dv_change.specs.Inner.Changes.{IsPositioned}
use Rattle.dv_group.specs.Inner.Members.{group_members}
use Rattle.dv_group.proofs.Owed.{with_each}
use Rattle.dv_group.proofs.group_operator.GroupOperator.all_shown.Given as goal

abbrev pub invariant-groups : goal.invariant-groups
invariant-groups l =
    let under : KeyTree → Positioned = λ k. group_members k l.self.groups.entries in
    record {
      shown : with_each l.self.group under (keys_of l.key-iterator) l.rows ≡ with_each l.self.group under (keys_of l.self.groups.entries) [];
      positioned : IsPositioned l.rows;
    }
