-- Each turn of a loop looks at the first of what is left of both, and what is inside weighs less.
use Rattle.std.proofs.Common.{true, false, arith, sym, ap, ◌∙◌, ◌≡◌, ◌⊎◌, ◌==◌, length, drop, map, inl, inr, length-drop, rules}
use Rattle.std.proofs.lemmas.List.{length-map}
use Rattle.dv_value.specs.Inner.Tree.{weight}
use Rattle.dv_value.specs.View.{tree}
use Rattle.dv_value.specs.Inner.Weight.{field_weighs_less}
use Rattle.dv_value.specs.Inner.ListLaws.{drop-found}
use Rattle.dv_order.specs.Same.{is_same}
use Rattle.dv_order.proofs.Steps.{element_at}
use Rattle.dv_order.proofs.SameLeft.{same_field, same_fields-pointwise, same_elements-pointwise, same-ended, same-more, differs}
use Rattle.dv_order.proofs.same.+same.Goals as goal
use Rattle.dv_order.proofs.same.+same.Goals.{same_documents-else-fields-test, same_documents-then-fields-test+then-place-len}

pub same_at-is_same-requires : goal.same_at-is_same-requires
same_at-is_same-requires t c =
    let f = element_at c.args.a.now c.args.place c.requires.a in
    (omega (arith, field_weighs_less c.args.a.now c.args.place f.0.0 f.0.1 f.1, ap weight (c.value_at.ensures f.0 (sym f.1))), tt)

pub same_documents-same_at-requires : goal.same_documents-same_at-requires
same_documents-same_at-requires t c = (omega arith, (omega arith, omega (arith, c.if-place-len.false, c.fields.invariant.passed, length-drop c.fields.place c.args.a.now, length-drop c.fields.place c.args.b.now)))

pub same_documents-returns-then-not-same_at : goal.same_documents-returns-then-not-same_at
same_documents-returns-then-not-same_at t c =
    let f = element_at c.args.a.now c.fields.place (search rules) in
    let g = element_at c.args.b.now c.fields.place (omega (arith, c.if-place-len.false, c.fields.invariant.passed, length-drop c.fields.place c.args.a.now, length-drop c.fields.place c.args.b.now)) in
    let x = drop-found c.args.a.now c.fields.place f.0 f.1 in
    let y = drop-found c.args.b.now c.fields.place g.0 g.1 in
    let differ : same_field f.0 g.0 ≡ false = sym (c.if-not-same_at.ensures f.0 g.0 (sym f.1) (sym g.1)) in
    differs same_field c.fields.invariant x y differ ∙ sym (same_fields-pointwise c.args.a.now c.args.b.now)

pub same_documents-fields-preserved : goal.same_documents-fields-preserved
same_documents-fields-preserved t c =
    let f = element_at c.args.a.now c.fields.place (search rules) in
    let g = element_at c.args.b.now c.fields.place (omega (arith, c.if-place-len.false, c.fields.invariant.passed, length-drop c.fields.place c.args.a.now, length-drop c.fields.place c.args.b.now)) in
    let x = drop-found c.args.a.now c.fields.place f.0 f.1 in
    let y = drop-found c.args.b.now c.fields.place g.0 g.1 in
    let same : same_field f.0 g.0 ≡ true = sym (c.if-not-same_at.ensures f.0 g.0 (sym f.1) (sym g.1)) in
    same-more same_field c.fields.invariant x y same

pub same_documents-returns : goal.same_documents-returns
same_documents-returns t c =
    let over : (length (drop c.fields.place c.args.a.now) ≡ 0) ⊎ (length (drop c.fields.place c.args.b.now) ≡ 0) =
    elim c.fields-test.branch [
      | same_documents-else-fields-test w ↦ inl (omega (arith, length-drop c.fields.place c.args.a.now))
      | same_documents-then-fields-test+then-place-len w ↦ inr (omega (arith, length-drop c.fields.place c.args.b.now))
    ] in
    let lengths : (c.len-2.result == c.len-3.result) ≡ (length c.args.a.now == length c.args.b.now) = cc in
    lengths ∙ same-ended same_field c.fields.invariant over ∙ sym (same_fields-pointwise c.args.a.now c.args.b.now)

pub same_lists-returns-then-not-is_same : goal.same_lists-returns-then-not-is_same
same_lists-returns-then-not-is_same t c =
    let x = ap (map tree) c.in-Some.ensures.steps.0 in
    let y = ap (map tree) c.in-Some.ensures.steps.1 in
    differs is_same c.elements.invariant.3 x y (sym c.if-not-is_same.ensures) ∙ sym (same_elements-pointwise c.args.a.now c.args.b.now)

pub same_lists-returns : goal.same_lists-returns
same_lists-returns t c =
    let over : (length (map tree c.elements.x-iterator.a.rest.now) ≡ 0) ⊎ (length (map tree c.elements.x-iterator.b.rest.now) ≡ 0) =
    elim c.in-None.ensures.steps [ inl w ↦ inl (length-map _ tree ∙ w.1.0) | inr w ↦ inr (length-map _ tree ∙ w.1.0) ] in
    let a : length c.as_slice-xs.result.now ≡ length c.args.a.now = sym (length-map _ tree) ∙ ap length c.as_slice-xs.ensures in
    let b : length c.as_slice-ys.result.now ≡ length c.args.b.now = sym (length-map _ tree) ∙ ap length c.as_slice-ys.ensures in
    let lengths : (length c.as_slice-xs.result.now == length c.as_slice-ys.result.now) ≡ (length c.args.a.now == length c.args.b.now) = cc in
    lengths ∙ same-ended is_same c.elements.invariant.3 over ∙ sym (same_elements-pointwise c.args.a.now c.args.b.now)
