-- Each turn of a loop compares the first of what is left of both, and what is inside weighs less.
use Rattle.std.proofs.Common.{arith, sym, ap, ◌∙◌, ◌≡◌, ◌⊎◌, length, drop, map, inl, inr, length-drop, rules}
use Rattle.std.proofs.lemmas.List.{length-map}
use Rattle.std.specs.Ordering.{nat_cmp}
use Rattle.dv_value.specs.Tree.{elements_of}
use Rattle.dv_value.specs.Inner.Tree.{weight, elements_weight}
use Rattle.dv_value.specs.View.{tree}
use Rattle.dv_value.specs.Inner.Weight.{field_weighs_less}
use Rattle.dv_value.specs.Inner.ListLaws.{drop-found}
use Rattle.dv_order.specs.Order.{order}
use Rattle.dv_order.proofs.Steps.{IsLeft-all, IsLeft-more, decided, ended, element_at, labels_decide, values_decide, fields_order-fields_of, elements_order-elements_of}
use Rattle.dv_order.proofs.comparison.+compare.Goals as goal
use Rattle.dv_order.proofs.comparison.+compare.Goals.{compare_documents-else-fields-test, compare_documents-then-fields-test+then-place-len}

pub compare_at-compare-requires : goal.compare_at-compare-requires
compare_at-compare-requires t c =
    let f = element_at c.args.a.now c.args.place c.requires.a in
    (omega (arith, field_weighs_less c.args.a.now c.args.place f.0.0 f.0.1 f.1, ap weight (c.value_at.ensures f.0 (sym f.1))), tt)

pub compare_at-returns-then-is_ne : goal.compare_at-returns-then-is_ne
compare_at-returns-then-is_ne t c = λ f g p q. labels_decide f g c.compare_labels_at-unequal.result (c.compare_labels_at-unequal.ensures f g p q) c.if-is_ne.ensures

pub compare_at-returns : goal.compare_at-returns
compare_at-returns t c = λ f g p q.
    let x = c.value_at.ensures f p in
    let y = c.value_at-2.ensures g q in
    c.compare.ensures ∙ (λ i. order (x i) (y i)) ∙ values_decide f g c.compare_labels_at-unequal.result (c.compare_labels_at-unequal.ensures f g p q) c.if-is_ne.ensures

pub compare_documents-compare_at-unequal-requires : goal.compare_documents-compare_at-unequal-requires
compare_documents-compare_at-unequal-requires t c = (omega arith, (omega arith, omega (arith, c.if-place-len.false, c.fields.invariant.passed, length-drop c.fields.place c.args.a.now, length-drop c.fields.place c.args.b.now)))

pub compare_documents-returns-then-is_ne : goal.compare_documents-returns-then-is_ne
compare_documents-returns-then-is_ne t c =
    let f = element_at c.args.a.now c.fields.place (search rules) in
    let g = element_at c.args.b.now c.fields.place (omega (arith, c.if-place-len.false, c.fields.invariant.passed, length-drop c.fields.place c.args.a.now, length-drop c.fields.place c.args.b.now)) in
    let x = drop-found c.args.a.now c.fields.place f.0 f.1 in
    let y = drop-found c.args.b.now c.fields.place g.0 g.1 in
    decided c.fields.invariant x y (c.compare_at-unequal.ensures f.0 g.0 (sym f.1) (sym g.1)) c.if-is_ne.ensures ∙ sym (fields_order-fields_of c.args.a.now c.args.b.now)

pub compare_documents-fields-preserved : goal.compare_documents-fields-preserved
compare_documents-fields-preserved t c =
    let f = element_at c.args.a.now c.fields.place (search rules) in
    let g = element_at c.args.b.now c.fields.place (omega (arith, c.if-place-len.false, c.fields.invariant.passed, length-drop c.fields.place c.args.a.now, length-drop c.fields.place c.args.b.now)) in
    let x = drop-found c.args.a.now c.fields.place f.0 f.1 in
    let y = drop-found c.args.b.now c.fields.place g.0 g.1 in
    IsLeft-more c.fields.invariant x y (c.compare_at-unequal.ensures f.0 g.0 (sym f.1) (sym g.1)) c.if-is_ne.ensures

pub compare_documents-returns : goal.compare_documents-returns
compare_documents-returns t c =
    let over : (length (drop c.fields.place c.args.a.now) ≡ 0) ⊎ (length (drop c.fields.place c.args.b.now) ≡ 0) =
    elim c.fields-test.branch [
      | compare_documents-else-fields-test w ↦ inl (omega (arith, length-drop c.fields.place c.args.a.now))
      | compare_documents-then-fields-test+then-place-len w ↦ inr (omega (arith, length-drop c.fields.place c.args.b.now))
    ] in
    let lengths : c.cmp.result ≡ nat_cmp (length c.args.a.now) (length c.args.b.now) = cc in
    lengths ∙ ended c.fields.invariant over ∙ sym (fields_order-fields_of c.args.a.now c.args.b.now)

pub compare_lists-elements-init : goal.compare_lists-elements-init
compare_lists-elements-init t c =
    let us : map tree c.into_iter-x-iterator.result.a.rest.now ≡ c.args.a.now = cc in
    let vs : map tree c.into_iter-x-iterator.result.b.rest.now ≡ c.args.b.now = cc in
    ((tt, tt), tt, omega (arith, ap (λ ws. elements_weight (elements_of ws)) us), IsLeft-all order _ _ _ _ us vs)

pub compare_lists-compare-unequal-requires : goal.compare_lists-compare-unequal-requires
compare_lists-compare-unequal-requires t c =
    let x = ap (λ us. elements_weight (elements_of (map tree us))) c.in-Some.ensures.steps.0 in
    (omega (arith, x, c.elements.invariant.2), tt)

pub compare_lists-returns-then-is_ne : goal.compare_lists-returns-then-is_ne
compare_lists-returns-then-is_ne t c =
    let x = ap (map tree) c.in-Some.ensures.steps.0 in
    let y = ap (map tree) c.in-Some.ensures.steps.1 in
    decided c.elements.invariant.3 x y c.compare-unequal.ensures c.if-is_ne.ensures ∙ sym (elements_order-elements_of c.args.a.now c.args.b.now)

pub compare_lists-elements-preserved : goal.compare_lists-elements-preserved
compare_lists-elements-preserved t c =
    let x = ap (map tree) c.in-Some.ensures.steps.0 in
    let y = ap (map tree) c.in-Some.ensures.steps.1 in
    ((tt, tt), tt, omega (arith, ap (λ us. elements_weight (elements_of us)) x, c.elements.invariant.2), IsLeft-more c.elements.invariant.3 x y c.compare-unequal.ensures c.if-is_ne.ensures)

pub compare_lists-returns : goal.compare_lists-returns
compare_lists-returns t c =
    let over : (length (map tree c.elements.x-iterator.a.rest.now) ≡ 0) ⊎ (length (map tree c.elements.x-iterator.b.rest.now) ≡ 0) =
    elim c.in-None.ensures.steps [ inl w ↦ inl (length-map _ tree ∙ w.1.0) | inr w ↦ inr (length-map _ tree ∙ w.1.0) ] in
    let a : length c.as_slice-xs.result.now ≡ length c.args.a.now = sym (length-map _ tree) ∙ ap length c.as_slice-xs.ensures in
    let b : length c.as_slice-ys.result.now ≡ length c.args.b.now = sym (length-map _ tree) ∙ ap length c.as_slice-ys.ensures in
    let lengths : c.cmp.result ≡ nat_cmp (length c.args.a.now) (length c.args.b.now) = cc in
    lengths ∙ ended c.elements.invariant.3 over ∙ sym (elements_order-elements_of c.args.a.now c.args.b.now)
