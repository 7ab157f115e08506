-- No name so far has a dot. What is inside a value weighs less.
use Rattle.std.proofs.Common.{◌≡◌, ◌≤◌, ◌+◌, ◌*◌, drop}
use Rattle.dv_value.specs.Tree.{fields_of, elements_of}
use Rattle.dv_value.specs.Inner.Tree.{weight, fields_weight, elements_weight}
use Rattle.dv_value.specs.View.{tree}
use Rattle.dv_path.specs.Names.{are_fields_dotted, are_elements_dotted}
use Rattle.dv_path.proofs.names.+dotted.Given as goal

abbrev pub decreases-is_dotted : goal.decreases-is_dotted
decreases-is_dotted l = 2 * weight (tree l.value.now)

abbrev pub decreases-are_fields_dotted : goal.decreases-are_fields_dotted
decreases-are_fields_dotted l = 2 * fields_weight (fields_of l.document.now) + 1

abbrev pub decreases-are_elements_dotted : goal.decreases-are_elements_dotted
decreases-are_elements_dotted l = 2 * elements_weight (elements_of l.list.now) + 1

abbrev pub invariant-are_fields_dotted-fields : goal.invariant-are_fields_dotted-fields
invariant-are_fields_dotted-fields l = record {
  dotted : are_fields_dotted (fields_of l.document) ≡ are_fields_dotted (fields_of l.name-iterator);
  lighter : fields_weight (fields_of l.name-iterator) ≤ fields_weight (fields_of l.document);
}

abbrev pub invariant-are_elements_dotted-elements : goal.invariant-are_elements_dotted-elements
invariant-are_elements_dotted-elements l = are_elements_dotted (elements_of l.list) ≡ are_elements_dotted (elements_of (drop l.value-index l.list))
