use Rattle.std.proofs.Common.{◌≡◌, ◌∙◌, ◌++◌, ◌∷◌, [], map, ap, sym, Some}
use Rattle.std.proofs.lemmas.List.{map-append}
use Rattle.dv_value.specs.Tree.{array, elements_of}
use Rattle.dv_value.specs.View.{tree}
use Rattle.dv_candidates.specs.View.{seen}
use Rattle.dv_candidates.proofs.Asked.{seen-at, elements-at, grown}
use Rattle.dv_candidates.proofs.listed.push_with_elements.Goals as goal

pub returns-in_ok-push_elements : goal.returns-in_ok-push_elements
returns-in_ok-push_elements c =
    let elements = elements-at c.args.candidate c.in-Found.value c.in-Found.is c.in-Array.list c.in-Array.is in
    let before = map seen c.args.leaves.now.items in
    let at = seen-at c.args.candidate c.in-Found.value c.in-Found.is (array (elements_of c.in-Array.list)) (ap tree c.in-Array.is) in
    let pushed : map seen c.push.new.self.items ≡ before ++ (Some (array (elements_of c.in-Array.list)) ∷ []) = ap (map seen) c.in_ok-push.ensures.items ∙ map-append seen c.args.leaves.now.items (c.args.candidate ∷ []) ∙ ap (λ t. before ++ (t ∷ [])) at in
    grown _ _ before (Some (array (elements_of c.in-Array.list)) ∷ []) _ c.in_ok-push_elements.ensures pushed ∙ ap (λ l. before ++ l) (sym elements)
