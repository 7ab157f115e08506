use Rattle.std.proofs.Common.{◌≡◌, Some, true, sym}
use Rattle.dv_value.specs.View.{tree}
use Rattle.dv_value.specs.Inner.ListLaws.{slice_get_seen}
use Rattle.dv_candidates.proofs.Asked.{any-some}
use Rattle.dv_candidates.proofs.any.any_element.Goals as goal

pub returns-then-passes : goal.returns-then-passes
returns-then-passes g c test answers =
    let there = slice_get_seen tree c.as_slice-element-items.result.now c.args.list.now c.loop-element.element-index c.element-item.result c.as_slice-element-items.ensures c.loop-element-test.true c.element-item.is in
    let passed : test (Some (tree c.element-item.result)) ≡ true = sym (answers.at _ _ c.if-passes.ensures) in
    sym (any-some test c.args.list.now c.loop-element.element-index (tree c.element-item.result) there passed)
