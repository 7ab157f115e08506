use Rattle.std.proofs.Common.{◌≡◌, ◌∙◌, ◌++◌, ◌∷◌, [], Some, None, map, ap, sym, append-nil, option_and_then, length, arith}
use Rattle.std.specs.List.{filter_map}
use Rattle.std.specs.Option.{option_map}
use Rattle.std.proofs.lemmas.List.{map-append}
use Rattle.dv_value.specs.Tree.{array, elements_of}
use Rattle.dv_value.specs.Names.{value_under}
use Rattle.dv_value.specs.View.{tree}
use Rattle.dv_value.specs.Inner.TreeLaws.{fields_again}
use Rattle.dv_path.specs.Expression.{component_entered, expression}
use Rattle.dv_path.proofs.Gathered.{filter_more, filter-one, expression-document, expression-array}
use Rattle.dv_path.proofs.expression.+expression.Goals as goal
use Rattle.dv_path.proofs.expression.+expression.Goals.{of_elements-in-Some+in_ok-push, of_elements-in_default}

pub of_element-returns-in-Doc : goal.of_element-returns-in-Doc
of_element-returns-in-Doc t c =
    let rest = expression c.args.rest.now in
    let name = c.args.component.now in
    let here : component_entered rest name (tree c.args.element.now) ≡ option_and_then rest (value_under name c.in-Doc.document) = ap (λ w. component_entered rest name (tree w)) c.in-Doc.is ∙ ap (λ fs. option_and_then rest (value_under name fs)) (fields_again c.in-Doc.document) in
    rw here c.enter.ensures

pub of_elements-elements-preserved : goal.of_elements-elements-preserved
of_elements-elements-preserved t c =
    let f = component_entered (expression c.args.rest.now) c.args.component.now in
    let more = filter_more f tree c.as_slice-element-items.result.now c.elements.element-index c.element-item.result c.elements-test.true c.element-item.is in
    let before = map tree c.elements.found.items in
    let gives : f (tree c.element-item.result) ≡ option_map tree c.in_ok-value.field-0 = sym c.in_ok-value.ensures in
    let pushed : map tree c.match-branch-2.found.items ≡ before ++ filter_map f (tree c.element-item.result ∷ []) =
    elim c.match-branch-2.branch [
      | of_elements-in-Some+in_ok-push w ↦ ap (λ v. map tree v.items) w.found-is ∙ ap (map tree) w.in_ok-push.ensures.items ∙ map-append tree c.elements.found.items (w.in-Some.value ∷ []) ∙ ap (λ l. before ++ l) (sym (filter-one f (tree c.element-item.result) (Some (tree w.in-Some.value)) (gives ∙ ap (option_map tree) w.in-Some.is)))
      | of_elements-in_default w ↦ ap (λ v. map tree v.items) w.found-is ∙ sym (append-nil before) ∙ ap (λ l. before ++ l) (sym (filter-one f (tree c.element-item.result) None (gives ∙ ap (option_map tree) w.in_default.is)))
    ] in
    pushed ∙ ap (λ l. l ++ filter_map f (tree c.element-item.result ∷ [])) c.elements.invariant ∙ sym more

pub within-documents-preserved : goal.within-documents-preserved
within-documents-preserved t c =
    let rest = c.in-Some.rest.now in
    let name = c.in-Some.component.now in
    let d = c.in-Doc.document in
    let gets : value_under name d ≡ Some (tree c.in-Some-get.entered.now) = ap (λ n. value_under n d) (sym c.as_str.ensures.name) ∙ sym c.in-Some-get.ensures in
    record {
      same = c.documents.invariant.same ∙ expression-document c.documents.left.now rest name c.documents.there.now c.in-Some.ensures.cases.0 d c.in-Doc.is ∙ ap (option_and_then (expression rest)) gets;
      left = omega (arith, c.documents.invariant.left, ap length c.in-Some.ensures.cases.0);
    }

pub within-returns-in_default-get : goal.within-returns-in_default-get
within-returns-in_default-get t c =
    let rest = c.in-Some.rest.now in
    let name = c.in-Some.component.now in
    let d = c.in-Doc.document in
    let gets : value_under name d ≡ None = ap (λ n. value_under n d) (sym c.as_str.ensures.name) ∙ sym c.in_default-get.ensures in
    sym (c.documents.invariant.same ∙ expression-document c.documents.left.now rest name c.documents.there.now c.in-Some.ensures.cases.0 d c.in-Doc.is ∙ ap (option_and_then (expression rest)) gets)

pub within-returns-in-Array : goal.within-returns-in-Array
within-returns-in-Array t c =
    let here = c.documents.invariant.same ∙ expression-array c.documents.left.now c.in-Some.rest.now c.in-Some.component.now c.documents.there.now c.in-Some.ensures.cases.0 c.in-Array.list c.in-Array.is in
    ap (λ vs. Some (array (elements_of vs))) c.in_ok-found-in-Array.ensures ∙ sym here
