use Rattle.std.proofs.Common.{◌≡◌, ◌∙◌, ap, sym, false, ◌||◌, map, Some}
use Rattle.std.specs.List.{list_any}
use Rattle.dv_value.specs.Tree.{array, elements_of}
use Rattle.dv_value.specs.View.{tree}
use Rattle.dv_candidates.specs.View.{seen}
use Rattle.dv_candidates.proofs.Asked.{seen-at, elements-at}
use Rattle.dv_candidates.proofs.any.any_with_elements.Goals as goal

pub returns-in-Array : goal.returns-in-Array
returns-in-Array g c test answers =
    let failed : test (seen c.args.candidate) ≡ false = sym (answers.at _ _ c.if-passes.ensures) in
    let elements = elements-at c.args.candidate c.in-Found.value c.in-Found.is c.in-Array.list c.in-Array.is in
    let l = c.in-Array.list in
    let at : seen c.args.candidate ≡ Some (array (elements_of l)) = seen-at c.args.candidate c.in-Found.value c.in-Found.is (array (elements_of l)) (ap tree c.in-Array.is) in
    let refused : test (Some (array (elements_of l))) ≡ false = ap test (sym at) ∙ failed in
    c.any_element.ensures test answers ∙ sym (ap (list_any test) elements ∙ ap (λ b. b || list_any test (map Some l)) refused)
