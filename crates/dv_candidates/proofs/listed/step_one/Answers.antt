use Rattle.std.proofs.Common.{◌∙◌, ◌++◌, ◌∷◌, [], map, ap, sym}
use Rattle.std.proofs.lemmas.List.{map-append}
use Rattle.dv_candidates.specs.View.{seen}
use Rattle.dv_candidates.proofs.Asked.{step-document, step-array, grown}
use Rattle.dv_candidates.proofs.listed.step_one.Goals as goal

pub returns-in_ok-push-in-Doc : goal.returns-in_ok-push-in-Doc
returns-in_ok-push-in-Doc c =
    let here = step-document c.args.candidate c.in-Found.value c.in-Found.is c.args.component.now c.in-Doc.document c.in-Doc.is in
    ap (map seen) c.in_ok-push-in-Doc.ensures.items ∙ map-append seen c.args.next.now.items (_ ∷ []) ∙ ap (λ t. map seen c.args.next.now.items ++ (t ∷ [])) c.enter.ensures ∙ ap (λ l. map seen c.args.next.now.items ++ l) (sym here)

pub returns-in_ok-enter_each-in-Array : goal.returns-in_ok-enter_each-in-Array
returns-in_ok-enter_each-in-Array c =
    let here = step-array c.args.candidate c.in-Found.value c.in-Found.is c.args.component.now c.in-Array.list c.in-Array.is in
    grown _ _ _ _ _ c.in_ok-enter_each-in-Array.ensures c.in_ok-pick-in-Array.ensures ∙ ap (λ l. map seen c.args.next.now.items ++ l) (sym here)
