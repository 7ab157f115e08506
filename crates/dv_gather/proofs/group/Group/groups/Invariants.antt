-- What is left is still to be added.
use Rattle.std.proofs.Common.{◌≡◌, [], drop}
use Rattle.dv_gather.specs.Inner.SumBounds.{EachWithin}
use Rattle.dv_gather.specs.View.{referred}
use Rattle.dv_gather.specs.Inner.GroupStates.{groups_with_rows}
use Rattle.dv_gather.specs.Inner.StateView.{groups_seen}
use Rattle.dv_gather.proofs.group.Group.groups.Given as goal

abbrev pub invariant-rows : goal.invariant-rows
invariant-rows l = record {
  rows : groups_with_rows l.self (referred (drop l.row-index l.rows)) (groups_seen l.groups.entries) ≡ groups_with_rows l.self (referred l.rows) [];
  within : EachWithin l.row-index (groups_seen l.groups.entries);
}
