use Rattle.std.proofs.Common.{length, map, false, true, sym, ◌∙◌, rules, arith}
use Rattle.std.proofs.lemmas.List.{length_push}
use Rattle.std.proofs.lemmas.Option.{slice_get_within}
use Rattle.std.proofs.lemmas.Result.{err_from_is_err_and}
use Rattle.dv_value.specs.Names.{with_values}
use Rattle.dv_value.specs.View.{tree}
use Rattle.dv_bson.specs.Inner.Parts.{numbered}
use Rattle.dv_bson.proofs.Shorter.{behind_name, frame_within}
use Rattle.dv_bson.proofs.Fronts.{length_numbered}
use Rattle.dv_bson.proofs.Elements.{field_may_be_added, array_read, numbered_push}
use Rattle.dv_bson.proofs.Alike.{next_field, values_grown}
use Rattle.dv_bson.proofs.Measured.{inside_measured}
use Rattle.dv_bson.proofs.Loop.{shorter, goes_on, ends, is_done, starts, too_deep, some_left, none_left}
use Rattle.dv_bson.proofs.Turns.{fails_kind, fails_name, fails_value, gives_field, gives_element}
use Rattle.dv_bson.proofs.reader.+reader.Goals as goal

-- ---- an element

pub field_of-overflow_sub-at : goal.field_of-overflow_sub-at
field_of-overflow_sub-at t c = behind_name _ _ _ _ _ _ c.in_ok-kind.ensures c.in_ok-name.ensures

pub field_of-value_of-requires : goal.field_of-value_of-requires
field_of-value_of-requires t c = (search rules, omega (arith, c.requires, behind_name _ _ _ _ _ _ c.in_ok-kind.ensures c.in_ok-name.ensures))

pub element_of-overflow_sub-at : goal.element_of-overflow_sub-at
element_of-overflow_sub-at t c = behind_name _ _ _ _ _ _ c.in_ok-kind.ensures (c.in_ok-rest.ensures _ (length_numbered 0 c.args.before.now))

pub element_of-value_of-requires : goal.element_of-value_of-requires
element_of-value_of-requires t c = (search rules, omega (arith, c.requires, behind_name _ _ _ _ _ _ c.in_ok-kind.ensures (c.in_ok-rest.ensures _ (length_numbered 0 c.args.before.now))))

pub field_of-returns-in_err-kind : goal.field_of-returns-in_err-kind
field_of-returns-in_err-kind t c =
    let p = err_from_is_err_and c.from_residual.result c.from_residual.ensures.1 in
    rw (p.1, p.2) (fails_kind _ _ _ _ _ _ c.in_err-kind.ensures)

pub field_of-returns-in_err-name : goal.field_of-returns-in_err-name
field_of-returns-in_err-name t c =
    let p = err_from_is_err_and c.from_residual-in_err-name.result c.from_residual-in_err-name.ensures.1 in
    rw (p.1, p.2) (fails_name _ _ _ _ _ _ c.in_ok-kind.ensures _ c.in_err-name.ensures)

pub field_of-returns-in_err-value : goal.field_of-returns-in_err-value
field_of-returns-in_err-value t c =
    let p = err_from_is_err_and c.from_residual-in_err-value.result c.from_residual-in_err-value.ensures.1 in
    rw (p.1, p.2) (fails_value _ _ _ _ _ _ c.in_ok-kind.ensures _ c.in_ok-name.ensures _ c.in_err-value.ensures)

pub field_of-returns : goal.field_of-returns
field_of-returns t c = gives_field _ _ _ _ _ _ c.in_ok-kind.ensures _ c.in_ok-name.ensures _ c.in_ok-value.ensures

pub element_of-returns-in_err-kind : goal.element_of-returns-in_err-kind
element_of-returns-in_err-kind t c =
    let p = err_from_is_err_and c.from_residual.result c.from_residual.ensures.1 in
    rw (p.1, p.2) (fails_kind _ _ _ _ _ _ c.in_err-kind.ensures)

pub element_of-returns-in_err-rest : goal.element_of-returns-in_err-rest
element_of-returns-in_err-rest t c =
    let p = err_from_is_err_and c.from_residual-in_err-rest.result c.from_residual-in_err-rest.ensures.1 in
    rw (p.1, p.2) (fails_name _ _ _ _ _ _ c.in_ok-kind.ensures _ (c.in_err-rest.ensures _ (length_numbered 0 c.args.before.now)))

pub element_of-returns : goal.element_of-returns
element_of-returns t c = gives_element _ _ _ _ _ _ c.in_ok-kind.ensures _ (c.in_ok-rest.ensures _ (length_numbered 0 c.args.before.now)) (λ x. (tree x.0, x.1.now)) c.value_of.result c.value_of.ensures

-- ---- a value

pub value_of-overflow_add-at : goal.value_of-overflow_add-at
value_of-overflow_add-at t c = omega (arith, c.requires, frame_within _ _ c.in_ok-frame-in-Doc.ensures)

pub value_of-document_of-requires : goal.value_of-document_of-requires
value_of-document_of-requires t c = (search rules, omega (arith, c.requires, frame_within _ _ c.in_ok-frame-in-Doc.ensures))

pub value_of-overflow_add-at-in-Array : goal.value_of-overflow_add-at-in-Array
value_of-overflow_add-at-in-Array t c = omega (arith, c.requires, frame_within _ _ c.in_ok-frame-in-Array.ensures)

pub value_of-list_of-requires : goal.value_of-list_of-requires
value_of-list_of-requires t c = (search rules, omega (arith, c.requires, frame_within _ _ c.in_ok-frame-in-Array.ensures))

pub value_of-returns-in_ok-list-in-Array : goal.value_of-returns-in_ok-list-in-Array
value_of-returns-in_ok-list-in-Array t c = rw c.in-Array.is (array_read _ _ _ _ _ c.in_ok-frame-in-Array.ensures c.in_ok-list-in-Array.ensures)

-- ---- the fields that have the names of others

pub value_like_next-overflow_sub-at : goal.value_like_next-overflow_sub-at
value_like_next-overflow_sub-at t c =
    let like = c.args.like.now in
    let before = c.args.before.now in
    let next = next_field like before (c.in-Some.name.now, tree c.in-Some.value.now) c.requires.named (sym c.in-Some.ensures) in
    let name = c.in-Some-behind_name.ensures (with_values like (map tree before)) next.fresh next.whole in
    behind_name _ _ _ _ _ _ c.in_ok-kind.ensures name

pub value_like_next-value_of-requires : goal.value_like_next-value_of-requires
value_like_next-value_of-requires t c =
    let like = c.args.like.now in
    let before = c.args.before.now in
    let next = next_field like before (c.in-Some.name.now, tree c.in-Some.value.now) c.requires.named (sym c.in-Some.ensures) in
    let name = c.in-Some-behind_name.ensures (with_values like (map tree before)) next.fresh next.whole in
    (search rules, omega (arith, c.requires.at, behind_name _ _ _ _ _ _ c.in_ok-kind.ensures name))

pub value_like_next-returns-in_err-kind : goal.value_like_next-returns-in_err-kind
value_like_next-returns-in_err-kind t c =
    let p = err_from_is_err_and c.from_residual.result c.from_residual.ensures.1 in
    rw (p.1, p.2) (fails_kind _ _ _ _ _ _ c.in_err-kind.ensures)

pub value_like_next-returns-in_err-value : goal.value_like_next-returns-in_err-value
value_like_next-returns-in_err-value t c =
    let like = c.args.like.now in
    let before = c.args.before.now in
    let next = next_field like before (c.in-Some.name.now, tree c.in-Some.value.now) c.requires.named (sym c.in-Some.ensures) in
    let name = c.in-Some-behind_name.ensures (with_values like (map tree before)) next.fresh next.whole in
    let p = err_from_is_err_and c.from_residual-in_err-value.result c.from_residual-in_err-value.ensures.1 in
    rw (p.1, p.2) (fails_value _ _ _ _ _ _ c.in_ok-kind.ensures _ name _ c.in_err-value.ensures)

pub value_like_next-returns : goal.value_like_next-returns
value_like_next-returns t c =
    let like = c.args.like.now in
    let before = c.args.before.now in
    let next = next_field like before (c.in-Some.name.now, tree c.in-Some.value.now) c.requires.named (sym c.in-Some.ensures) in
    let name = c.in-Some-behind_name.ensures (with_values like (map tree before)) next.fresh next.whole in
    ((c.in-Some.name.now, tree c.in-Some.value.now), sym c.in-Some.ensures, gives_field _ _ _ _ _ _ c.in_ok-kind.ensures _ name _ c.in_ok-value.ensures)

pub begin_like-returns-in_err-value-clause-left : goal.begin_like-returns-in_err-value-clause-left
begin_like-returns-in_err-value-clause-left t c = λ last.
    let p = err_from_is_err_and c.from_residual-in_err-value.result c.from_residual-in_err-value.ensures.1 in
    let failed = rw c.deref.ensures.value at c.in_err-value.ensures in
    rw (p.1, p.2) (ends _ _ _ _ _ _ _ _ (some_left _ (sym c.is_empty.ensures ∙ c.fields-test.true)) failed (c.fields.invariant.read last))

pub begin_like-overflow_sub-at : goal.begin_like-overflow_sub-at
begin_like-overflow_sub-at t c =
    let next = rw (c.in-Some.is, c.deref.ensures.value) at c.in_ok-value.ensures in
    omega (arith, shorter _ _ _ _ _ _ next.2)

pub begin_like-fields-smaller : goal.begin_like-fields-smaller
begin_like-fields-smaller t c =
    let next = rw (c.in-Some.is, c.deref.ensures.value) at c.in_ok-value.ensures in
    shorter _ _ _ _ _ _ next.2

pub begin_like-fields-preserved : goal.begin_like-fields-preserved
begin_like-fields-preserved t c =
    let next = rw (c.in-Some.is, c.deref.ensures.value) at c.in_ok-value.ensures in
    let values = c.fields.values.items in
    record {
      read = λ last. rw (c.in_ok-push.ensures.items, values_grown c.args.like.now values next.0 c.in-Some.value next.1) (goes_on _ _ _ _ _ _ _ _ next.2 (c.fields.invariant.read last));
      as_far = omega (arith, c.fields.invariant.as_far, shorter _ _ _ _ _ _ next.2);
      fits = rw c.in_ok-push.ensures.items (omega (arith, length_push values c.in-Some.value, slice_get_within c.args.like.now (length values) next.0 next.1));
    }

-- ---- the loop over a document's fields

pub document_of-returns-then-levels-eq0 : goal.document_of-returns-then-levels-eq0
document_of-returns-then-levels-eq0 t c = too_deep _ _ _ _ _ (omega arith)

pub document_of-elements-init : goal.document_of-elements-init
document_of-elements-init t c = record {
  read = c.in_ok-fields.ensures.left c.args.last ∙ starts c.args.levels false c.args.at c.args.elements.now c.args.last (omega arith);
  in_range = omega (arith, c.in_ok-fields.ensures.at, c.requires.at);
}

pub document_of-returns-in_err-fields : goal.document_of-returns-in_err-fields
document_of-returns-in_err-fields t c =
    let p = err_from_is_err_and c.from_residual.result c.from_residual.ensures.1 in
    rw (p.1, p.2, ← starts c.args.levels false c.args.at c.args.elements.now c.args.last (omega arith)) (c.in_err-fields.ensures.left c.args.last)

pub document_of-returns-in_err-name : goal.document_of-returns-in_err-name
document_of-returns-in_err-name t c =
    let p = err_from_is_err_and c.from_residual-in_err-name.result c.from_residual-in_err-name.ensures.1 in
    rw (p.1, p.2) (ends _ _ _ _ _ _ _ _ (some_left _ (sym c.is_empty.ensures ∙ c.elements-test.true)) c.in_err-name.ensures c.elements.invariant.read)

pub document_of-add-requires-clause-whole : goal.document_of-add-requires-clause-whole
document_of-add-requires-clause-whole t c = (field_may_be_added _ _ _ _ _ c.in_ok-name.ensures).whole

pub document_of-add-requires-clause-fresh : goal.document_of-add-requires-clause-fresh
document_of-add-requires-clause-fresh t c = (field_may_be_added _ _ _ _ _ c.in_ok-name.ensures).fresh

pub document_of-overflow_sub-at : goal.document_of-overflow_sub-at
document_of-overflow_sub-at t c = omega (arith, shorter _ _ _ _ _ _ c.in_ok-name.ensures)

pub document_of-elements-smaller : goal.document_of-elements-smaller
document_of-elements-smaller t c = shorter _ _ _ _ _ _ c.in_ok-name.ensures

pub document_of-elements-preserved : goal.document_of-elements-preserved
document_of-elements-preserved t c = record {
  read = rw c.in_ok-add.ensures.ok (goes_on _ _ _ _ _ _ _ _ c.in_ok-name.ensures c.elements.invariant.read);
  in_range = omega (arith, c.elements.invariant.in_range, shorter _ _ _ _ _ _ c.in_ok-name.ensures);
}

pub document_of-returns-in_err-closed : goal.document_of-returns-in_err-closed
document_of-returns-in_err-closed t c =
    let p = err_from_is_err_and c.from_residual-in_err-closed.result c.from_residual-in_err-closed.ensures.1 in
    let done = is_done _ _ _ _ _ _ _ (none_left _ (sym c.is_empty.ensures ∙ c.elements-test.false)) c.elements.invariant.read in
    rw (p.1, p.2, ← done) (c.in_err-closed.ensures c.elements.fields)

pub document_of-of-requires : goal.document_of-of-requires
document_of-of-requires t c =
    let done = is_done _ _ _ _ _ _ _ (none_left _ (sym c.is_empty.ensures ∙ c.elements-test.false)) c.elements.invariant.read in
    inside_measured c.args.levels c.args.at c.args.elements.now c.args.last c.elements.fields (λ i. omega (arith, c.type_inv.elements i)) c.requires.levels (omega (arith, c.requires.at)) (sym done ∙ c.in_ok-closed.ensures c.elements.fields)

pub document_of-returns : goal.document_of-returns
document_of-returns t c =
    let done = is_done _ _ _ _ _ _ _ (none_left _ (sym c.is_empty.ensures ∙ c.elements-test.false)) c.elements.invariant.read in
    rw c.in_ok-of.ensures (sym done ∙ c.in_ok-closed.ensures c.elements.fields)

-- ---- the loop over an array's elements

pub list_of-returns-then-levels-eq0 : goal.list_of-returns-then-levels-eq0
list_of-returns-then-levels-eq0 t c = too_deep _ _ _ _ _ (omega arith)

pub list_of-elements-init : goal.list_of-elements-init
list_of-elements-init t c = record {
  read = rw c.new-values.ensures.items (starts c.args.levels true c.args.at c.args.elements.now c.args.last (omega arith));
  in_range = c.requires.at;
}

pub list_of-returns-in_err-value : goal.list_of-returns-in_err-value
list_of-returns-in_err-value t c =
    let p = err_from_is_err_and c.from_residual.result c.from_residual.ensures.1 in
    let failed = rw c.deref.ensures.value at c.in_err-value.ensures in
    rw (p.1, p.2) (ends _ _ _ _ _ _ _ _ (some_left _ (sym c.is_empty.ensures ∙ c.elements-test.true)) failed c.elements.invariant.read)

pub list_of-add_element-requires : goal.list_of-add_element-requires
list_of-add_element-requires t c = shorter _ _ _ _ _ _ c.in_ok-value.ensures

pub list_of-overflow_sub-at : goal.list_of-overflow_sub-at
list_of-overflow_sub-at t c = omega (arith, shorter _ _ _ _ _ _ c.in_ok-value.ensures)

pub list_of-elements-smaller : goal.list_of-elements-smaller
list_of-elements-smaller t c = shorter _ _ _ _ _ _ c.in_ok-value.ensures

pub list_of-elements-preserved : goal.list_of-elements-preserved
list_of-elements-preserved t c = record {
  read = let made = rw c.deref.ensures.value at c.in_ok-value.ensures in rw (c.in_ok-add_element.ensures, numbered_push c.elements.values.items c.in_ok-value.value) (goes_on _ _ _ _ _ _ _ _ made c.elements.invariant.read);
  in_range = omega (arith, c.elements.invariant.in_range, shorter _ _ _ _ _ _ c.in_ok-value.ensures);
}

pub list_of-returns-in_err-closed : goal.list_of-returns-in_err-closed
list_of-returns-in_err-closed t c =
    let p = err_from_is_err_and c.from_residual-in_err-closed.result c.from_residual-in_err-closed.ensures.1 in
    let done = is_done _ _ _ _ _ _ _ (none_left _ (sym c.is_empty.ensures ∙ c.elements-test.false)) c.elements.invariant.read in
    rw (p.1, p.2, ← done) (c.in_err-closed.ensures (numbered 0 (map tree c.elements.values.items)))

pub list_of-returns : goal.list_of-returns
list_of-returns t c =
    let done = is_done _ _ _ _ _ _ _ (none_left _ (sym c.is_empty.ensures ∙ c.elements-test.false)) c.elements.invariant.read in
    rw (c.of.ensures, c.shrink_to_fit.ensures.items) (sym done ∙ c.in_ok-closed.ensures (numbered 0 (map tree c.elements.values.items)))
