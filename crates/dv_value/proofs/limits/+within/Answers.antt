use Rattle.std.proofs.Common.{arith}
use Rattle.dv_value.specs.View.{tree}
use Rattle.dv_value.specs.Inner.ListLaws.{slice_get_seen}
use Rattle.dv_value.proofs.Rest.{fields_levels-drop, elements_levels-drop}
use Rattle.dv_value.proofs.limits.+within.Goals as goal

pub document_within-returns-then-not-value_within : goal.document_within-returns-then-not-value_within
document_within-returns-then-not-value_within t c =
    let split = fields_levels-drop c.args.document.now c.loop-place.place (c.field.result.0.now, tree c.field.result.1.now) c.field.ensures in
    (λ no. absurd cc, λ shallow. c.if-not-value_within.ensures.1 (omega (arith, c.loop-place.invariant.1 (omega arith), split)))

pub document_within-loop-place-preserved : goal.document_within-loop-place-preserved
document_within-loop-place-preserved t c =
    let split = fields_levels-drop c.args.document.now c.loop-place.place (c.field.result.0.now, tree c.field.result.1.now) c.field.ensures in
    let shallow = c.value_within.ensures.0 c.if-not-value_within.false in
    (λ rest. c.loop-place.invariant.0 (omega arith), λ whole. omega (arith, c.loop-place.invariant.1 whole))

pub list_within-returns-then-not-value_within : goal.list_within-returns-then-not-value_within
list_within-returns-then-not-value_within t c =
    let here = slice_get_seen tree c.as_slice-value-items.result.now c.args.list.now c.loop-value.value-index c.value-item.result c.as_slice-value-items.ensures c.loop-value-test.true c.value-item.is in
    let split = elements_levels-drop c.args.list.now c.loop-value.value-index (tree c.value-item.result) here in
    (λ no. absurd cc, λ shallow. c.if-not-value_within.ensures.1 (omega (arith, c.loop-value.invariant.1 (omega arith), split)))

pub list_within-loop-value-preserved : goal.list_within-loop-value-preserved
list_within-loop-value-preserved t c =
    let here = slice_get_seen tree c.as_slice-value-items.result.now c.args.list.now c.loop-value.value-index c.value-item.result c.as_slice-value-items.ensures c.loop-value-test.true c.value-item.is in
    let split = elements_levels-drop c.args.list.now c.loop-value.value-index (tree c.value-item.result) here in
    let shallow = c.value_within.ensures.0 c.if-not-value_within.false in
    (λ rest. c.loop-value.invariant.0 (omega arith), λ whole. omega (arith, c.loop-value.invariant.1 whole))
