use Rattle.std.proofs.Common.{length, sym, ap, ◌∙◌, arith, rules}
use Rattle.std.specs.Prelude.{FitsSigned}
use Rattle.std.specs.Int.{w32, w64}
use Rattle.std.proofs.lemmas.List.{drop_all}
use Rattle.dv_value.specs.Tree.{fields_of, elements_of}
use Rattle.dv_value.specs.Inner.Spelled.{fields_spelling-nil, elements_spelling-nil, length-document, length-array, length-element_spelling}
use Rattle.dv_value.specs.Spelling.{payload, kind_of, fields_spelling, elements_spelling}
use Rattle.dv_value.specs.View.{tree}
use Rattle.dv_value.specs.Inner.Weight.{field_weighs_less, value_weighs_less}
use Rattle.dv_value.specs.Inner.ListLaws.{slice_get_seen, drop_seen}
use Rattle.dv_bson.proofs.Payloads.{payload-int32, payload-int64, payload-string, payload-document, payload-array, payload-binary, payload-object_id, payload-boolean, payload-date, payload-null, payload-timestamp, payload-min_key, payload-max_key}
use Rattle.dv_bson.proofs.Rest.{fields_spelling-drop, elements_spelling-drop, payload-le-fields, payload-le-elements}
use Rattle.dv_bson.proofs.Written.{put_none, put_as, length-put, all_left, room_for, less_left, none_left, element_put}
use Rattle.dv_bson.proofs.writer.+writer.Goals as goal

pub put_document-loop-place-init : goal.put_document-loop-place-init
put_document-loop-place-init t c = all_left _ (fields_spelling (fields_of c.args.document.now)) c.args.out.now (omega (arith, c.requires.within, length-document (fields_of c.args.document.now)))

pub put_document-put_element-at-requires : goal.put_document-put_element-at-requires
put_document-put_element-at-requires t c =
    let room = room_for _ _ _ _ _ _ c.loop-place.invariant _ _ (fields_spelling-drop c.args.document.now c.loop-place.place (c.field.result.0.now, tree c.field.result.1.now) c.field.ensures) in (
      omega (arith, field_weighs_less c.args.document.now c.loop-place.place c.field.result.0.now (tree c.field.result.1.now) (sym c.field.ensures)),
      (room, omega (arith, c.requires.short, length-document (fields_of c.args.document.now), payload-le-fields c.args.document.now c.loop-place.place (c.field.result.0.now, tree c.field.result.1.now) c.field.ensures)),
    )

pub put_document-loop-place-preserved : goal.put_document-loop-place-preserved
put_document-loop-place-preserved t c =
    less_left _ _ _ _ _ _ c.loop-place.invariant _ _ _ _ (fields_spelling-drop c.args.document.now c.loop-place.place (c.field.result.0.now, tree c.field.result.1.now) c.field.ensures) c.put_element-at.ensures

pub put_document-close-requires : goal.put_document-close-requires
put_document-close-requires t c =
    let written = none_left _ _ _ _ _ _ c.loop-place.invariant (fields_spelling-nil _ (drop_all c.loop-place.place c.args.document.now (omega arith))) in
    omega (arith, written.ends, c.loop-place.invariant.same, c.requires.within, c.requires.short, length-document (fields_of c.args.document.now))

pub put_document-returns : goal.put_document-returns
put_document-returns t c =
    let written = none_left _ _ _ _ _ _ c.loop-place.invariant (fields_spelling-nil _ (drop_all c.loop-place.place c.args.document.now (omega arith))) in
    put_as _ _ _ _ _ _ (sym (payload-document (fields_of c.args.document.now))) (c.close.ensures (fields_spelling (fields_of c.args.document.now)) c.args.out.now written)

pub put_list-loop-place-init : goal.put_list-loop-place-init
put_list-loop-place-init t c = all_left _ (elements_spelling 0 (elements_of c.args.list.now)) c.args.out.now (omega (arith, c.requires.within, length-array (elements_of c.args.list.now)))

pub put_list-put_element-at-requires : goal.put_list-put_element-at-requires
put_list-put_element-at-requires t c =
    let here = slice_get_seen tree c.as_slice-value-items.result.now c.args.list.now c.loop-place.place c.value-item.result c.as_slice-value-items.ensures c.loop-place-test.true c.value-item.is in
    let room = room_for _ _ _ _ _ _ c.loop-place.invariant _ _ (elements_spelling-drop c.args.list.now c.loop-place.place (tree c.value-item.result) here) in (
      omega (arith, value_weighs_less c.as_slice-value-items.result.now c.args.list.now c.loop-place.place c.value-item.result c.as_slice-value-items.ensures c.loop-place-test.true c.value-item.is),
      (rw c.format.ensures.text room, omega (arith, c.requires.short, length-array (elements_of c.args.list.now), payload-le-elements 0 c.args.list.now c.loop-place.place (tree c.value-item.result) here)),
    )

pub put_list-loop-place-preserved : goal.put_list-loop-place-preserved
put_list-loop-place-preserved t c =
    let here = slice_get_seen tree c.as_slice-value-items.result.now c.args.list.now c.loop-place.place c.value-item.result c.as_slice-value-items.ensures c.loop-place-test.true c.value-item.is in
    less_left _ _ _ _ _ _ c.loop-place.invariant _ _ _ _ (elements_spelling-drop c.args.list.now c.loop-place.place (tree c.value-item.result) here) (rw c.format.ensures.text at c.put_element-at.ensures)

pub put_list-close-requires : goal.put_list-close-requires
put_list-close-requires t c =
    let written = none_left _ _ _ _ _ _ c.loop-place.invariant (elements_spelling-nil _ _ (drop_seen tree c.as_slice-value-items.result.now c.args.list.now c.loop-place.place c.as_slice-value-items.ensures c.loop-place-test.false)) in
    omega (arith, written.ends, c.loop-place.invariant.same, c.requires.within, c.requires.short, length-array (elements_of c.args.list.now))

pub put_list-returns : goal.put_list-returns
put_list-returns t c =
    let written = none_left _ _ _ _ _ _ c.loop-place.invariant (elements_spelling-nil _ _ (drop_seen tree c.as_slice-value-items.result.now c.args.list.now c.loop-place.place c.as_slice-value-items.ensures c.loop-place-test.false)) in
    put_as _ _ _ _ _ _ (sym (payload-array (elements_of c.args.list.now))) (c.close.ensures (elements_spelling 0 (elements_of c.args.list.now)) c.args.out.now written)

pub put_element-put-at-requires : goal.put_element-put-at-requires
put_element-put-at-requires t c = omega (arith, length-element_spelling (kind_of (tree c.args.value.now)) c.args.name.now (payload (tree c.args.value.now)))

pub put_element-put-at-requires-2 : goal.put_element-put-at-requires-2
put_element-put-at-requires-2 t c = omega (arith, length-element_spelling (kind_of (tree c.args.value.now)) c.args.name.now (payload (tree c.args.value.now)), c.put-at.ensures.ends, length-put _ _ _ _ _ c.put-at.ensures, ap length c.as_bytes.ensures.value)

pub put_element-put-at-requires-3 : goal.put_element-put-at-requires-3
put_element-put-at-requires-3 t c = omega (arith, length-element_spelling (kind_of (tree c.args.value.now)) c.args.name.now (payload (tree c.args.value.now)), c.put-at.ensures.ends, length-put _ _ _ _ _ c.put-at.ensures, c.put-at-2.ensures.ends, length-put _ _ _ _ _ c.put-at-2.ensures, ap length c.as_bytes.ensures.value)

pub put_element-put_value-requires : goal.put_element-put_value-requires
put_element-put_value-requires t c = (
  omega arith,
  (omega (arith, length-element_spelling (kind_of (tree c.args.value.now)) c.args.name.now (payload (tree c.args.value.now)), c.put-at.ensures.ends, length-put _ _ _ _ _ c.put-at.ensures, c.put-at-2.ensures.ends, length-put _ _ _ _ _ c.put-at-2.ensures, c.put-at-3.ensures.ends, length-put _ _ _ _ _ c.put-at-3.ensures, ap length c.as_bytes.ensures.value), omega arith),
)

pub put_element-returns : goal.put_element-returns
put_element-returns t c =
    element_put _ _ _ _ _ _ _ _ _ _ _ _ _ (rw (c.byte.ensures, c.kind.ensures) at c.put-at.ensures) (rw c.as_bytes.ensures.value at c.put-at-2.ensures) c.put-at-3.ensures c.put_value.ensures

pub put_value-put-requires : goal.put_value-put-requires
put_value-put-requires t c =
    let fits : FitsSigned w32 c.in-Int32.number = search rules in
    let is = payload-int32 c.in-Int32.number c.to_le_bytes.result fits c.to_le_bytes.ensures in
    rw is (rw c.in-Int32.is at c.requires.within)

pub put_value-returns-in-Int32 : goal.put_value-returns-in-Int32
put_value-returns-in-Int32 t c =
    let fits : FitsSigned w32 c.in-Int32.number = search rules in
    let is = payload-int32 c.in-Int32.number c.to_le_bytes.result fits c.to_le_bytes.ensures in
    rw c.in-Int32.is (put_as _ _ _ _ _ _ is c.put.ensures)

pub put_value-put-requires-in-Int64 : goal.put_value-put-requires-in-Int64
put_value-put-requires-in-Int64 t c =
    let fits : FitsSigned w64 c.in-Int64.number = search rules in
    let is = payload-int64 c.in-Int64.number c.to_le_bytes-in-Int64.result fits c.to_le_bytes-in-Int64.ensures in
    rw is (rw c.in-Int64.is at c.requires.within)

pub put_value-returns-in-Int64 : goal.put_value-returns-in-Int64
put_value-returns-in-Int64 t c =
    let fits : FitsSigned w64 c.in-Int64.number = search rules in
    let is = payload-int64 c.in-Int64.number c.to_le_bytes-in-Int64.result fits c.to_le_bytes-in-Int64.ensures in
    rw c.in-Int64.is (put_as _ _ _ _ _ _ is c.put-in-Int64.ensures)

pub put_value-put-requires-in-Date : goal.put_value-put-requires-in-Date
put_value-put-requires-in-Date t c =
    let fits : FitsSigned w64 c.in-Date.milliseconds = search rules in
    let is = payload-date c.in-Date.milliseconds c.to_le_bytes-in-Date.result fits c.to_le_bytes-in-Date.ensures in
    rw is (rw c.in-Date.is at c.requires.within)

pub put_value-returns-in-Date : goal.put_value-returns-in-Date
put_value-returns-in-Date t c =
    let fits : FitsSigned w64 c.in-Date.milliseconds = search rules in
    let is = payload-date c.in-Date.milliseconds c.to_le_bytes-in-Date.result fits c.to_le_bytes-in-Date.ensures in
    rw c.in-Date.is (put_as _ _ _ _ _ _ is c.put-in-Date.ensures)

pub put_value-put-requires-in-Timestamp : goal.put_value-put-requires-in-Timestamp
put_value-put-requires-in-Timestamp t c =
    let is = c.to_le_bytes-in-Timestamp.ensures ∙ payload-timestamp c.in-Timestamp.time in
    rw is (rw c.in-Timestamp.is at c.requires.within)

pub put_value-returns-in-Timestamp : goal.put_value-returns-in-Timestamp
put_value-returns-in-Timestamp t c =
    let is = c.to_le_bytes-in-Timestamp.ensures ∙ payload-timestamp c.in-Timestamp.time in
    rw c.in-Timestamp.is (put_as _ _ _ _ _ _ is c.put-in-Timestamp.ensures)

pub put_value-put_text-requires-clause-within : goal.put_value-put_text-requires-clause-within
put_value-put_text-requires-clause-within t c = rw (c.as_str.ensures, ← payload-string c.in-Text.text) (rw c.in-Text.is at c.requires.within)

pub put_value-put_text-requires-clause-short : goal.put_value-put_text-requires-clause-short
put_value-put_text-requires-clause-short t c = rw (c.as_str.ensures, ← payload-string c.in-Text.text) (rw c.in-Text.is at c.requires.short)

pub put_value-returns-in-Text : goal.put_value-returns-in-Text
put_value-returns-in-Text t c = rw (c.in-Text.is, payload-string c.in-Text.text, ← c.as_str.ensures) c.put_text.ensures

pub put_value-put_binary-requires-clause-within : goal.put_value-put_binary-requires-clause-within
put_value-put_binary-requires-clause-within t c = rw (c.as_slice.ensures, ← payload-binary c.in-Binary.subtype c.in-Binary.bytes) (rw c.in-Binary.is at c.requires.within)

pub put_value-put_binary-requires-clause-short : goal.put_value-put_binary-requires-clause-short
put_value-put_binary-requires-clause-short t c = rw (c.as_slice.ensures, ← payload-binary c.in-Binary.subtype c.in-Binary.bytes) (rw c.in-Binary.is at c.requires.short)

pub put_value-returns-in-Binary : goal.put_value-returns-in-Binary
put_value-returns-in-Binary t c = rw (c.in-Binary.is, payload-binary c.in-Binary.subtype c.in-Binary.bytes, ← c.as_slice.ensures) c.put_binary.ensures

pub put_value-put-requires-in-ObjectId : goal.put_value-put-requires-in-ObjectId
put_value-put-requires-in-ObjectId t c = rw (← payload-object_id c.in-ObjectId.id) at (rw c.in-ObjectId.is at c.requires.within)

pub put_value-returns-in-ObjectId : goal.put_value-returns-in-ObjectId
put_value-returns-in-ObjectId t c = rw c.in-ObjectId.is (put_as _ _ _ _ _ _ (payload-object_id c.in-ObjectId.id) c.put-in-ObjectId.ensures)

pub put_value-put-requires-in-Bool : goal.put_value-put-requires-in-Bool
put_value-put-requires-in-Bool t c = omega (arith, (rw (c.in-Bool.is, payload-boolean c.in-Bool.boolean) at c.requires.within))

pub put_value-returns-in-Bool : goal.put_value-returns-in-Bool
put_value-returns-in-Bool t c = rw (c.in-Bool.is, payload-boolean c.in-Bool.boolean) c.put-in-Bool.ensures

pub put_value-returns-in-Null : goal.put_value-returns-in-Null
put_value-returns-in-Null t c = rw c.in-Null.is (put_none _ _ _ payload-null (omega (arith, c.requires.within)))

pub put_value-returns-in-MinKey : goal.put_value-returns-in-MinKey
put_value-returns-in-MinKey t c = rw c.in-MinKey.is (put_none _ _ _ payload-min_key (omega (arith, c.requires.within)))

pub put_value-returns-in-MaxKey : goal.put_value-returns-in-MaxKey
put_value-returns-in-MaxKey t c = rw c.in-MaxKey.is (put_none _ _ _ payload-max_key (omega (arith, c.requires.within)))
