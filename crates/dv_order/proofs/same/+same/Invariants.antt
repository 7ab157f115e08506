-- Both values are descended into together, so the weight of the first falls.
use Rattle.std.proofs.Common.{◌+◌, ◌*◌, ◌≤◌, drop, map}
use Rattle.std.specs.Cmp.Lexicographic.{pointwise}
use Rattle.dv_value.specs.Tree.{fields_of, elements_of}
use Rattle.dv_value.specs.Inner.Tree.{weight, fields_weight, elements_weight}
use Rattle.dv_value.specs.View.{tree}
use Rattle.dv_value.specs.Inner.LeftLaws.{IsLeft}
use Rattle.dv_order.specs.Same.{is_same}
use Rattle.dv_order.proofs.SameLeft.{same_field}
use Rattle.dv_order.proofs.same.+same.Given as goal

abbrev pub decreases-is_same : goal.decreases-is_same
decreases-is_same l = 3 * weight (tree l.a.now)

abbrev pub decreases-same_at : goal.decreases-same_at
decreases-same_at l = 3 * fields_weight (fields_of l.a.now) + 1

abbrev pub decreases-same_documents : goal.decreases-same_documents
decreases-same_documents l = 3 * fields_weight (fields_of l.a.now) + 2

abbrev pub decreases-same_lists : goal.decreases-same_lists
decreases-same_lists l = 3 * elements_weight (elements_of l.a.now) + 2

abbrev pub invariant-same_documents-fields : goal.invariant-same_documents-fields
invariant-same_documents-fields l = IsLeft (pointwise same_field) l.a l.b (drop l.place l.a) (drop l.place l.b)

abbrev pub invariant-same_lists-elements : goal.invariant-same_lists-elements
invariant-same_lists-elements l =
    let us = map tree l.x-iterator.a.rest.now in
    let vs = map tree l.x-iterator.b.rest.now in
    (goal.iterator-same_lists-elements).can_next l.x-iterator × (goal.iterator-same_lists-elements).is_finite l.x-iterator
    × (elements_weight (elements_of us) ≤ elements_weight (elements_of l.fn.a)) × IsLeft (pointwise is_same) l.fn.a l.fn.b us vs
