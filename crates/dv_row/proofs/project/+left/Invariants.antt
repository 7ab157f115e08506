use Rattle.std.proofs.Common.{◌≡◌, ◌+◌, ◌*◌, drop, map, take}
use Rattle.dv_value.specs.Tree.{fields_of, elements_of, list_of_elements}
use Rattle.dv_value.specs.Inner.Tree.{fields_weight, elements_weight, weight}
use Rattle.dv_value.specs.View.{tree}
use Rattle.dv_row.specs.Projecting.{elements_left}
use Rattle.dv_row.specs.Inner.Turns.{fields_to_go, left_at_end, left_behind}
use Rattle.dv_row.proofs.Turning.{IsGoing, to_go}
use Rattle.dv_row.proofs.project.+left.Given as goal

abbrev pub decreases-document_left : goal.decreases-document_left
decreases-document_left l = 4 * fields_weight (fields_of l.document.now) + 4

abbrev pub decreases-go_on : goal.decreases-go_on
decreases-go_on l = 4 * fields_to_go l.level + 3

abbrev pub decreases-value_left : goal.decreases-value_left
decreases-value_left l = 4 * weight (tree l.value.now) + 2

abbrev pub decreases-left_inside : goal.decreases-left_inside
decreases-left_inside l = 4 * weight (tree l.value.now) + 1

abbrev pub decreases-list_left : goal.decreases-list_left
decreases-list_left l = 4 * elements_weight (elements_of l.list.now) + 3

abbrev pub invariant-document_left-turns : goal.invariant-document_left-turns
invariant-document_left-turns l = IsGoing l.keeps l.ways l.document l.around.items l.level

abbrev pub decreases-document_left-turns : goal.decreases-document_left-turns
decreases-document_left-turns l = to_go l.around.items l.level

-- what the fields that are to come add to what is left
abbrev pub invariant-go_on-fields : goal.invariant-go_on-fields
invariant-go_on-fields l = left_at_end l.keeps l.fn.level ≡ left_behind l.keeps l.ways (drop l.place l.document) l.left

abbrev pub invariant-list_left-elements : goal.invariant-list_left-elements
invariant-list_left-elements l = map tree l.left.items ≡ list_of_elements (elements_left l.keeps l.ways (elements_of (map tree (take l.element-index l.element-items))))
