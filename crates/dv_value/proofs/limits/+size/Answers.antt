use Rattle.std.proofs.Common.{length, refl, sym, ap, arith, rules}
use Rattle.std.proofs.lemmas.List.{drop_all}
use Rattle.dv_value.specs.Tree.{Field, fields_of, elements_of}
use Rattle.dv_value.specs.Spelling.{payload}
use Rattle.dv_value.specs.View.{tree}
use Rattle.dv_value.specs.Inner.Weight.{field_weighs_less, value_weighs_less}
use Rattle.dv_value.specs.Inner.Spelled.{length-document, length-array, length-string, fields_spelling-nil, elements_spelling-nil}
use Rattle.dv_value.specs.Inner.ListLaws.{slice_get_seen, drop_seen}
use Rattle.dv_value.proofs.Rest.{fields_length-drop, elements_length-drop, AreValidBefore-more, elements_valid-more}
use Rattle.dv_value.proofs.limits.+size.Goals as goal

pub counted_size-loop-place-init : goal.counted_size-loop-place-init
counted_size-loop-place-init t c = record {
  within = omega arith;
  left = omega (arith, length-document (fields_of c.args.document.now));
  before = record { named = c.len-place-end.ensures.named; valid = λ valid. valid };
}

pub counted_size-with_element-requires : goal.counted_size-with_element-requires
counted_size-with_element-requires t c =
    (omega (arith, field_weighs_less c.args.document.now c.loop-place.place c.field.result.0.now (tree c.field.result.1.now) (sym c.field.ensures)), tt)

pub counted_size-returns-in_err-total-clause-size : goal.counted_size-returns-in_err-total-clause-size
counted_size-returns-in_err-total-clause-size t c =
    rw c.from_residual.ensures (λ short. c.in_err-total.ensures.size (omega (arith, fields_length-drop c.args.document.now c.loop-place.place (c.field.result.0.now, tree c.field.result.1.now) c.field.ensures)))

pub counted_size-loop-place-preserved : goal.counted_size-loop-place-preserved
counted_size-loop-place-preserved t c =
    let f : Field = (c.field.result.0.now, tree c.field.result.1.now) in
    record {
      within = omega (arith, c.in_ok-total.ensures.size);
      left = omega (arith, c.in_ok-total.ensures.size, fields_length-drop c.args.document.now c.loop-place.place f c.field.ensures);
      before = AreValidBefore-more c.args.document.now c.loop-place.place f c.field.ensures (search rules) c.in_ok-total.ensures.valid c.loop-place.invariant.before;
    }

pub counted_size-returns-clause-size : goal.counted_size-returns-clause-size
counted_size-returns-clause-size t c =
    let none = drop_all c.loop-place.place c.args.document.now (omega arith) in
    let nothing = ap length (fields_spelling-nil _ none) in
    (omega arith, omega arith)

pub list_size-loop-place-init : goal.list_size-loop-place-init
list_size-loop-place-init t c = record {
  within = omega arith;
  left = omega (arith, length-array (elements_of c.args.list.now));
  before = λ valid. valid;
}

pub list_size-with_element-requires : goal.list_size-with_element-requires
list_size-with_element-requires t c =
    (omega (arith, value_weighs_less c.as_slice-value-items.result.now c.args.list.now c.loop-place.place c.value-item.result c.as_slice-value-items.ensures c.loop-place-test.true c.value-item.is), tt)

pub list_size-returns-in_err-total-clause-size : goal.list_size-returns-in_err-total-clause-size
list_size-returns-in_err-total-clause-size t c =
    let here = slice_get_seen tree c.as_slice-value-items.result.now c.args.list.now c.loop-place.place c.value-item.result c.as_slice-value-items.ensures c.loop-place-test.true c.value-item.is in
    rw c.from_residual.ensures (λ short. c.in_err-total.ensures.size (omega (arith, elements_length-drop c.args.list.now c.loop-place.place (tree c.value-item.result) here)))

pub list_size-loop-place-preserved : goal.list_size-loop-place-preserved
list_size-loop-place-preserved t c =
    let here = slice_get_seen tree c.as_slice-value-items.result.now c.args.list.now c.loop-place.place c.value-item.result c.as_slice-value-items.ensures c.loop-place-test.true c.value-item.is in
    record {
      within = omega (arith, c.in_ok-total.ensures.size);
      left = omega (arith, c.in_ok-total.ensures.size, elements_length-drop c.args.list.now c.loop-place.place (tree c.value-item.result) here);
      before = elements_valid-more c.args.list.now c.loop-place.place (tree c.value-item.result) here c.in_ok-total.ensures.valid c.loop-place.invariant.before;
    }

pub list_size-returns-clause-size : goal.list_size-returns-clause-size
list_size-returns-clause-size t c =
    let none = drop_seen tree c.as_slice-value-items.result.now c.args.list.now c.loop-place.place c.as_slice-value-items.ensures c.loop-place-test.false in
    let nothing = ap length (elements_spelling-nil c.loop-place.place _ none) in
    (omega arith, omega arith)

pub value_size-returns-in-Int32-clause-size : goal.value_size-returns-in-Int32-clause-size
unfolding payload
value_size-returns-in-Int32-clause-size t c = rw c.in-Int32.is (omega arith, refl)

pub value_size-returns-in-Int64-clause-size : goal.value_size-returns-in-Int64-clause-size
unfolding payload
value_size-returns-in-Int64-clause-size t c = rw c.in-Int64.is (omega arith, refl)

pub value_size-returns-in-Bool-clause-size : goal.value_size-returns-in-Bool-clause-size
unfolding payload
value_size-returns-in-Bool-clause-size t c = rw c.in-Bool.is (omega arith, refl)

pub value_size-returns-in-Date-clause-size : goal.value_size-returns-in-Date-clause-size
unfolding payload
value_size-returns-in-Date-clause-size t c = rw c.in-Date.is (omega arith, refl)

pub value_size-returns-in-Timestamp-clause-size : goal.value_size-returns-in-Timestamp-clause-size
unfolding payload
value_size-returns-in-Timestamp-clause-size t c = rw c.in-Timestamp.is (omega arith, refl)

pub value_size-returns-in-Null-clause-size : goal.value_size-returns-in-Null-clause-size
unfolding payload
value_size-returns-in-Null-clause-size t c = rw c.in-Null.is (omega arith, refl)

pub value_size-returns-in-MinKey-clause-size : goal.value_size-returns-in-MinKey-clause-size
unfolding payload
value_size-returns-in-MinKey-clause-size t c = rw c.in-MinKey.is (omega arith, refl)

pub value_size-returns-in-MaxKey-clause-size : goal.value_size-returns-in-MaxKey-clause-size
unfolding payload
value_size-returns-in-MaxKey-clause-size t c = rw c.in-MaxKey.is (omega arith, refl)

pub value_size-returns-in-ObjectId-clause-size : goal.value_size-returns-in-ObjectId-clause-size
unfolding payload
value_size-returns-in-ObjectId-clause-size t c = rw c.in-ObjectId.is (omega (arith, c.object_id_size.ensures.size, c.object_id_size.ensures.valid.0), c.object_id_size.ensures.size)

pub value_size-returns-in-Text-clause-size : goal.value_size-returns-in-Text-clause-size
value_size-returns-in-Text-clause-size t c = rw (c.in-Text.is, length-string c.in-Text.text, ← c.as_str.ensures) c.sum.ensures
