use Rattle.std.proofs.Common.{◌≡◌, ◌∙◌, ◌∷◌, [], ◌++◌, ◌+◌, ap, sym, refl, drop, Bor, Some, None}
use Rattle.std.specs.Option.{option_map}
use Rattle.dv_value.specs.declared.value.Value.{Value}
use Rattle.dv_value.specs.Names.{value_under}
use Rattle.dv_value.specs.Tree.{document, fields_of}
use Rattle.dv_value.specs.View.{tree}
use Rattle.dv_row.proofs.Standing.{left-read, left-last, nothing-there, last-there, goes-on, not-reached, stops, last-is_some}
use Rattle.dv_row.proofs.row_value.standing.Goals as goal

pub returns-in_default-get : goal.returns-in_default-get
returns-in_default-get c =
    let name = c.component-item.result in
    let inner = c.components.inner.now in
    let gets : value_under name inner ≡ None = ap (λ n. value_under n inner) (sym c.as_str.ensures.name) ∙ sym c.in_default-get.ensures in
    let left = left-read c.args.path.now c.in-Some.way.now c.args.document.now inner c.in-Some.last.now c.components.component-index c.components.invariant name c.components-test.true c.component-item.is in
    let none = nothing-there c.args.path.now c.args.document.now name (drop (c.components.component-index + 1) c.in-Some.way.now ++ c.in-Some.last.now ∷ []) inner left gets in
    record { expression = none.0; reached = none.1 }

pub components-preserved : goal.components-preserved
components-preserved c =
    let name = c.component-item.result in
    let inner = c.components.inner.now in
    let next = c.in-Doc.next in
    let gets : value_under name inner ≡ Some (document (fields_of next)) = ap (λ n. value_under n inner) (sym c.as_str.ensures.name) ∙ sym c.in-Some-get.ensures ∙ ap (λ v. Some (tree v)) c.in-Doc.is in
    let left = left-read c.args.path.now c.in-Some.way.now c.args.document.now inner c.in-Some.last.now c.components.component-index c.components.invariant name c.components-test.true c.component-item.is in
    let rest = drop (c.components.component-index + 1) c.in-Some.way.now in
    goes-on c.args.path.now c.args.document.now name (rest ++ c.in-Some.last.now ∷ []) inner left (last-is_some rest c.in-Some.last.now) next gets

pub returns-in_default-value : goal.returns-in_default-value
returns-in_default-value c =
    let name = c.component-item.result in
    let inner = c.components.inner.now in
    let v = c.in-Some-get.value.now in
    let gets : value_under name inner ≡ Some (tree v) = ap (λ n. value_under n inner) (sym c.as_str.ensures.name) ∙ sym c.in-Some-get.ensures in
    let left = left-read c.args.path.now c.in-Some.way.now c.args.document.now inner c.in-Some.last.now c.components.component-index c.components.invariant name c.components-test.true c.component-item.is in
    let rest = drop (c.components.component-index + 1) c.in-Some.way.now in
    let more = last-is_some rest c.in-Some.last.now in
    let names = rest ++ c.in-Some.last.now ∷ [] in
    record {
      expression = stops c.args.path.now c.args.document.now name names inner left more v gets c.in_default-value.not-Doc c.in_default-value.not-Array;
      reached = not-reached c.args.path.now c.args.document.now name names inner left more v gets c.in_default-value.not-Doc;
    }

pub returns : goal.returns
returns c =
    let inner = c.components.inner.now in
    let last = c.in-Some.last.now in
    let left = left-last c.args.path.now c.in-Some.way.now c.args.document.now inner last c.components.component-index c.components.invariant c.components-test.false in
    let found = option_map (λ (v : Bor Value). tree v.now) c.get-2.result in
    let gets : found ≡ value_under last inner = c.get-2.ensures ∙ ap (λ n. value_under n inner) c.as_str-2.ensures.name in
    let there = last-there c.args.path.now c.args.document.now last [] inner left found refl gets in
    record { expression = there.0; reached = there.1 }
