use Rattle.std.proofs.Common.{◌≡◌, ◌∙◌, ◌++◌, ◌∷◌, [], map, take, ap, sym, append-nil}
use Rattle.std.specs.List.{flat_map}
use Rattle.std.proofs.lemmas.List.{map-append}
use Rattle.dv_value.specs.View.{tree}
use Rattle.dv_candidates.specs.Candidates.{entered}
use Rattle.dv_candidates.specs.View.{seen}
use Rattle.dv_candidates.proofs.Asked.{flat_more, grown, entered-document, entered-other}
use Rattle.dv_candidates.proofs.listed.enter_each.Goals as goal
use Rattle.dv_candidates.proofs.listed.enter_each.Goals.{in-Doc+in_ok-push, in_default}

pub loop-element-preserved : goal.loop-element-preserved
loop-element-preserved c =
    let name = c.args.component.now in
    let elements = c.as_slice-element-items.result.now in
    let i = c.loop-element.element-index in
    let x = c.element-item.result in
    let more = flat_more (entered name) tree elements i x c.loop-element-test.true c.element-item.is in
    let pushed : map seen c.match-element.next.items ≡ map seen c.loop-element.next.items ++ entered name (tree x) =
    elim c.match-element.branch [
      | in-Doc+in_ok-push w ↦ ap (λ v. map seen v.items) w.next-is ∙ ap (map seen) w.in_ok-push.ensures.items ∙ map-append seen c.loop-element.next.items (_ ∷ []) ∙ ap (λ t. map seen c.loop-element.next.items ++ (t ∷ [])) w.enter.ensures ∙ ap (λ l. map seen c.loop-element.next.items ++ l) (sym (entered-document name x w.in-Doc.document w.in-Doc.is))
      | in_default w ↦ ap (λ v. map seen v.items) w.next-is ∙ sym (append-nil (map seen c.loop-element.next.items)) ∙ ap (λ l. map seen c.loop-element.next.items ++ l) (sym (entered-other name x w.in_default.not-Doc))
    ] in
    grown (map seen c.match-element.next.items) (map seen c.loop-element.next.items) (map seen c.args.next.now.items) (flat_map (entered name) (map tree (take i elements))) (entered name (tree x)) pushed c.loop-element.invariant ∙ ap (λ l. map seen c.args.next.now.items ++ l) (sym more)
