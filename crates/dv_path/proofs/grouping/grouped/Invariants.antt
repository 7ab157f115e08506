-- The paths of the groups, and those that are left, are all that have a component.
use Rattle.std.proofs.Common.{◌≡◌, ◌++◌, map, drop}
use Rattle.dv_path.specs.Inner.GroupView.{group}
use Rattle.dv_path.specs.Inner.Groups.{AreFilled, ungrouped, with_component}
use Rattle.dv_path.proofs.Together.{lent}
use Rattle.dv_path.proofs.grouping.grouped.Given as goal

abbrev pub invariant-paths : goal.invariant-paths
invariant-paths l = (ungrouped (map group l.groups.items) ++ with_component (lent (drop l.path-index l.paths)) ≡ with_component (lent l.paths)) × AreFilled (map group l.groups.items)
