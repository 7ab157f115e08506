use Rattle.std.proofs.Common.{◌≡◌, ◌∙◌, ◌++◌, ◌∷◌, [], map, drop, ap, sym, ◌+◌}
use Rattle.std.specs.List.{flat_map}
use Rattle.dv_value.specs.Names.{value_under}
use Rattle.dv_value.specs.Inner.ListLaws.{positive}
use Rattle.dv_candidates.specs.Candidates.{candidates, step_from, whole}
use Rattle.dv_candidates.specs.View.{seen}
use Rattle.dv_candidates.proofs.Asked.{whole-first, candidates-more, candidates-end}
use Rattle.dv_candidates.proofs.listed.whole.Goals as goal

pub loop-component-init : goal.loop-component-init
loop-component-init c =
    let names = c.components-components.result.now in
    let name = c.index-components-0.result in
    let first : map seen c.push.new.self.items ≡ value_under name c.args.document.now ∷ [] = ap (map seen) (c.in_ok-push.ensures.items ∙ ap (λ l. l ++ c.enter.result ∷ []) c.new-found.ensures.items) ∙ ap (λ t. t ∷ []) c.enter.ensures in
    ap (λ ns. flat_map (candidates ns) (map seen c.push.new.self.items)) c.behind-component-items.ensures ∙ ap (flat_map (candidates (drop 1 names))) first ∙ whole-first names c.args.document.now name (positive names (λ none. c.components-components.ensures.some (sym c.components-components.ensures.components ∙ none))) c.index-components-0.is ∙ ap (whole c.args.document.now) c.components-components.ensures.components

pub loop-component-preserved : goal.loop-component-preserved
loop-component-preserved c =
    let names = c.behind-component-items.result.now in
    let i = c.loop-component.component-index in
    ap (flat_map (candidates (drop (i + 1) names))) (c.in_ok-found.ensures ∙ ap (λ l. flat_map (step_from c.component-item.result) (map seen l)) c.as_slice.ensures.value) ∙ candidates-more names i c.component-item.result (map seen c.loop-component.found.items) c.loop-component-test.true c.component-item.is ∙ c.loop-component.invariant

pub returns : goal.returns
returns c = sym (candidates-end c.behind-component-items.result.now c.loop-component.component-index (map seen c.loop-component.found.items) c.loop-component-test.false) ∙ c.loop-component.invariant
