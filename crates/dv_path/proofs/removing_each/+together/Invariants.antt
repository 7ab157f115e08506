-- Each call has fewer components left than the one around it.
use Rattle.std.proofs.Common.{◌≡◌, ◌+◌, ◌*◌, map, drop}
use Rattle.dv_value.specs.View.{tree}
use Rattle.dv_path.specs.Inner.GroupView.{group}
use Rattle.dv_path.specs.Inner.Groups.{with_groups, elements_with_groups}
use Rattle.dv_path.proofs.Grouped.{total, AreOpen}
use Rattle.dv_path.proofs.Together.{lent}
use Rattle.dv_path.proofs.removing_each.+together.Given as goal

abbrev pub decreases-remove_from_document : goal.decreases-remove_from_document
decreases-remove_from_document l = 3 * total (lent l.paths.now) + 1

abbrev pub decreases-remove_from_list : goal.decreases-remove_from_list
decreases-remove_from_list l = 3 * total (lent l.paths.now) + 1

abbrev pub decreases-left_of : goal.decreases-left_of
decreases-left_of l = 3 * total (lent l.paths.now) + 2

abbrev pub decreases-remove_from_field : goal.decreases-remove_from_field
decreases-remove_from_field l = 3 * total (group l.group.now).1 + 3

abbrev pub decreases-remove_from_element : goal.decreases-remove_from_element
decreases-remove_from_element l = 3 * total (group l.group.now).1 + 3

abbrev pub invariant-remove_from_document-groups : goal.invariant-remove_from_document-groups
invariant-remove_from_document-groups l = (with_groups l.changed (map group (drop l.group-index l.group-items)) ≡ with_groups l.initial.changed (map group l.group-items)) × AreOpen (total (lent l.paths)) (map group (drop l.group-index l.group-items))

abbrev pub invariant-remove_from_list-groups : goal.invariant-remove_from_list-groups
invariant-remove_from_list-groups l = (elements_with_groups (map tree l.values.items) (map group (drop l.group-index l.group-items)) ≡ elements_with_groups (map tree l.initial.values.items) (map group l.group-items)) × AreOpen (total (lent l.paths)) (map group (drop l.group-index l.group-items))
