use Rattle.std.proofs.Common.{◌≡◌, ◌+◌, ◌*◌, ◌≤◌, length, drop}
use Rattle.dv_value.specs.Tree.{fields_of, elements_of}
use Rattle.dv_value.specs.Inner.Tree.{weight, fields_weight, elements_weight}
use Rattle.dv_value.specs.Tree as trees
use Rattle.dv_value.specs.Spelling.{payload, spelling, fields_spelling, elements_spelling, AreElements}
use Rattle.dv_value.specs.View.{tree}
use Rattle.dv_value.proofs.Rest.{AreValidBefore}
use Rattle.dv_value.proofs.limits.+size.Given as goal

abbrev pub decreases-value_size : goal.decreases-value_size
decreases-value_size l = 4 * weight (tree l.value.now)

abbrev pub decreases-with_element : goal.decreases-with_element
decreases-with_element l = 4 * weight (tree l.value.now) + 1

abbrev pub decreases-document_size : goal.decreases-document_size
decreases-document_size l = 4 * fields_weight (fields_of l.document.now) + 3

abbrev pub decreases-counted_size : goal.decreases-counted_size
decreases-counted_size l = 4 * fields_weight (fields_of l.document.now) + 2

abbrev pub decreases-list_size : goal.decreases-list_size
decreases-list_size l = 4 * elements_weight (elements_of l.list.now) + 2

abbrev pub invariant-counted_size-loop-place : goal.invariant-counted_size-loop-place
invariant-counted_size-loop-place l = record {
  within : l.total ≤ 2147483647;
  left : l.total + length (fields_spelling (fields_of (drop l.place l.document))) ≡ length (spelling l.document);
  before : AreValidBefore l.document l.place;
}

abbrev pub invariant-list_size-loop-place : goal.invariant-list_size-loop-place
invariant-list_size-loop-place l = record {
  within : l.total ≤ 2147483647;
  left : l.total + length (elements_spelling l.place (elements_of (drop l.place l.list))) ≡ length (payload (trees.array (elements_of l.list)));
  before : AreElements (elements_of (drop l.place l.list)) → AreElements (elements_of l.list);
}
