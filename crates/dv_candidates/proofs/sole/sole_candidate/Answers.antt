use Rattle.std.proofs.Common.{◌∙◌, ◌∷◌, [], ◌++◌, ◌+◌, ap, sym, drop}
use Rattle.std.specs.List.{flat_map}
use Rattle.dv_candidates.specs.Candidates.{candidates, whole}
use Rattle.dv_candidates.specs.View.{seen}
use Rattle.dv_candidates.proofs.Asked.{whole-first, candidates-more, candidates-end}
use Rattle.dv_candidates.proofs.Clear.{clear-first, clear-more}
use Rattle.dv_candidates.proofs.sole.sole_candidate.Goals as goal
use Rattle.dv_value.specs.Inner.ListLaws.{positive}

pub loop-component-init : goal.loop-component-init
loop-component-init c =
    let names = c.components-components.result.now in
    let d = c.args.document.now in
    let some = positive names (λ none. c.components-components.ensures.some (sym c.components-components.ensures.components ∙ none)) in
    let first = c.field-candidate.ensures in
    let rest = c.behind-component-items.ensures in
    record {
      so-far = ap (λ ns. flat_map (candidates ns) (seen c.field-candidate.result ∷ [])) rest ∙ ap (λ x. flat_map (candidates (drop 1 names)) (x ∷ [])) first ∙ whole-first names d c.index-components-0.result some c.index-components-0.is ∙ ap (whole d) c.components-components.ensures.components;
      clear = λ clear. rw (rest, first) (clear-first names c.index-components-0.result d some c.index-components-0.is (rw c.components-components.ensures.components clear));
    }

pub loop-component-preserved : goal.loop-component-preserved
loop-component-preserved c =
    let names = c.behind-component-items.result.now in
    let i = c.loop-component.component-index in
    let before = seen c.loop-component.candidate in
    let next = c.in_ok-candidate.ensures in
    record {
      so-far = ap (λ xs. flat_map (candidates (drop (i + 1) names)) (xs ++ [])) (sym next.sole) ∙ candidates-more names i c.component-item.result (before ∷ []) c.loop-component-test.true c.component-item.is ∙ c.loop-component.invariant.so-far;
      clear = λ clear. next.on (drop (i + 1) names) (clear-more names i c.component-item.result before c.loop-component-test.true c.component-item.is (c.loop-component.invariant.clear clear));
    }

pub returns-in_err-candidate-clause-some : goal.returns-in_err-candidate-clause-some
returns-in_err-candidate-clause-some c = λ clear.
    let i = c.loop-component.component-index in
    let names = c.behind-component-items.result.now in
    let some = c.next.ensures.some (drop (i + 1) names) (clear-more names i c.component-item.result (seen c.loop-component.candidate) c.loop-component-test.true c.component-item.is (c.loop-component.invariant.clear clear)) in
    let none = c.in_err-candidate.was in
    let never = rw none at some in
    cc

pub returns-clause-sole : goal.returns-clause-sole
returns-clause-sole c =
    sym c.loop-component.invariant.so-far ∙ candidates-end c.behind-component-items.result.now c.loop-component.component-index (seen c.loop-component.candidate ∷ []) c.loop-component-test.false
