use Rattle.std.proofs.Common.{◌≡◌, ◌≤◌, ◌+◌, ◌*◌, length, map, take}
use Rattle.std.specs.List.{filter_map}
use Rattle.dv_value.specs.View.{tree}
use Rattle.dv_path.specs.Expression.{component_entered, expression}
use Rattle.dv_path.proofs.expression.+expression.Given as goal

abbrev pub decreases-within : goal.decreases-within
decreases-within l = 4 * length l.path.now

abbrev pub decreases-enter : goal.decreases-enter
decreases-enter l = 4 * length l.rest.now + 1

abbrev pub decreases-of_elements : goal.decreases-of_elements
decreases-of_elements l = 4 * length l.rest.now + 3

abbrev pub decreases-of_element : goal.decreases-of_element
decreases-of_element l = 4 * length l.rest.now + 2

abbrev pub invariant-of_elements-elements : goal.invariant-of_elements-elements
invariant-of_elements-elements l = map tree l.found.items ≡ filter_map (component_entered (expression l.rest) l.component) (map tree (take l.element-index l.element-items))

abbrev pub invariant-within-documents : goal.invariant-within-documents
invariant-within-documents l = record {
  same : expression l.path (tree l.value) ≡ expression l.left (tree l.there);
  left : length l.left ≤ length l.path;
}

abbrev pub decreases-within-documents : goal.decreases-within-documents
decreases-within-documents l = length l.left
