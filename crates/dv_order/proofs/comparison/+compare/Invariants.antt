-- A comparison descends into both values together, so the weight of the first falls. Each step of a loop leaves the rest of both.
use Rattle.std.proofs.Common.{◌+◌, ◌*◌, ◌≤◌, drop, map}
use Rattle.dv_value.specs.Tree.{fields_of, elements_of}
use Rattle.dv_value.specs.Inner.Tree.{weight, fields_weight, elements_weight}
use Rattle.dv_value.specs.View.{tree}
use Rattle.dv_order.specs.Order.{field_order, order}
use Rattle.dv_order.proofs.Steps.{IsLeft}
use Rattle.dv_order.proofs.comparison.+compare.Given as goal

abbrev pub decreases-compare : goal.decreases-compare
decreases-compare l = 3 * weight (tree l.a.now)

abbrev pub decreases-compare_at : goal.decreases-compare_at
decreases-compare_at l = 3 * fields_weight (fields_of l.a.now) + 1

abbrev pub decreases-compare_documents : goal.decreases-compare_documents
decreases-compare_documents l = 3 * fields_weight (fields_of l.a.now) + 2

abbrev pub decreases-compare_lists : goal.decreases-compare_lists
decreases-compare_lists l = 3 * elements_weight (elements_of l.a.now) + 2

abbrev pub invariant-compare_documents-fields : goal.invariant-compare_documents-fields
invariant-compare_documents-fields l = IsLeft field_order l.a l.b (drop l.place l.a) (drop l.place l.b)

abbrev pub invariant-compare_lists-elements : goal.invariant-compare_lists-elements
invariant-compare_lists-elements l =
    let us = map tree l.x-iterator.a.rest.now in
    let vs = map tree l.x-iterator.b.rest.now in
    (goal.iterator-compare_lists-elements).can_next l.x-iterator × (goal.iterator-compare_lists-elements).is_finite l.x-iterator
    × (elements_weight (elements_of us) ≤ elements_weight (elements_of l.fn.a)) × IsLeft order l.fn.a l.fn.b us vs
