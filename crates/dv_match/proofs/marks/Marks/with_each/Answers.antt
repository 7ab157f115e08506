use Rattle.std.proofs.Common.{◌∷◌, ◌∙◌, [], map, take, take_all, Some, ap, subst, sym}
use Rattle.dv_value.specs.View.{tree}
use Rattle.dv_match.specs.Inner.Blocks.{Marked}
use Rattle.dv_match.proofs.Marked.{marked-none, marked-more, elements-more}
use Rattle.dv_match.proofs.marks.Marks.with_each.Goals as goal

pub loop-element-init : goal.loop-element-init
loop-element-init c = marked-none c.args.block.now c.args.self

pub loop-element-preserved : goal.loop-element-preserved
loop-element-preserved c =
    let block = c.args.block.now in
    let items = c.as_slice-element-items.result.now in
    let i = c.loop-element.element-index in
    let x = c.element-item.result in
    subst (λ cs. Marked block cs c.args.self c.with_value-marks.result) (sym (elements-more items i x c.loop-element-test.true c.element-item.is))
    (marked-more block (map Some (map tree (take i items))) (Some (tree x) ∷ []) c.args.self c.loop-element.marks c.with_value-marks.result c.loop-element.invariant c.with_value-marks.ensures)

pub returns : goal.returns
returns c =
    let items = c.as_slice-element-items.result.now in
    subst (λ cs. Marked c.args.block.now cs c.args.self c.loop-element.marks)
    (ap (λ xs. map Some (map tree xs)) (take_all c.loop-element.element-index items c.loop-element-test.false) ∙ ap (map Some) c.as_slice-element-items.ensures)
    c.loop-element.invariant
