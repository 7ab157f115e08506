use Rattle.std.proofs.Common.{◌≡◌, ◌∙◌, ◌∷◌, [], ◌<◌, length, Some, Ok, ap, sym, arith}
use Rattle.std.proofs.lemmas.List.{length-map}
use Rattle.dv_value.specs.FieldChange.{with_value_pushed}
use Rattle.dv_value.specs.Names.{value_under}
use Rattle.dv_value.specs.Tree.{array, elements_of, list_of_elements}
use Rattle.dv_value.specs.View.{tree}
use Rattle.dv_value.specs.Inner.TreeLaws.{elements_again}
use Rattle.dv_update.specs.Inner.Outcome.{applied_under}
use Rattle.dv_update.specs.Update.{append}
use Rattle.dv_update.proofs.Behind.{one-value}
use Rattle.dv_update.proofs.OneField.{pushes_value, differs_pushed}
use Rattle.dv_update.proofs.one_field.pushed_under.Goals as goal

pub returns-clause-applied : goal.returns-clause-applied
returns-clause-applied c =
    let name = c.args.name.now in
    let d = c.args.document.now in
    let v = c.value-item.result in
    let there = c.in-Some-Array.list in
    let one : c.args.values.now ≡ tree v ∷ [] = one-value c.as_slice.result.now c.args.values.now v c.in-len1.len_at_least c.in-len1.len_below c.value-item.is c.as_slice.ensures in
    let here : Some (array (elements_of there)) ≡ value_under name d = sym (ap (λ x. Some (tree x)) c.in-Some-Array.field-0-is) ∙ c.in-Some-Array.ensures in
    let few : length (list_of_elements (elements_of there)) < 1000000 = omega (arith, ap length (elements_again there), ap length c.as_slice-2.ensures, length-map c.as_slice-2.result.now tree, c.if-as_slice-ge-SIX_DIGITS.false) in
    ap (λ vs. applied_under name (append vs) d) one
    ∙ pushes_value name c.requires c.what_a_field_adds.ensures.more d (tree v) (elements_of there) here few (c.has_room.ensures c.if-not-has_room.false)
    ∙ ap (λ x. Ok (with_value_pushed name (tree x) d)) (sym c.in_ok-pushed.ensures)

pub returns-clause-same : goal.returns-clause-same
returns-clause-same c =
    let here : Some (array (elements_of c.in-Some-Array.list)) ≡ value_under c.args.name.now c.args.document.now = sym (ap (λ x. Some (tree x)) c.in-Some-Array.field-0-is) ∙ c.in-Some-Array.ensures in
    differs_pushed c.args.name.now c.args.document.now (tree c.in_ok-pushed.pushed) (elements_of c.in-Some-Array.list) here
