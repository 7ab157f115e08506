use Rattle.std.proofs.Common.{sym}
use Rattle.dv_value.specs.View.{tree}
use Rattle.dv_match.specs.Parsing.{is_operator_list}
use Rattle.dv_match.proofs.Items.{any-here, any-nowhere}
use Rattle.dv_match.proofs.operand.any_operator_list.Goals as goal

pub returns-then-is_operator_list : goal.returns-then-is_operator_list
returns-then-is_operator_list c =
    sym (any-here is_operator_list tree c.as_slice-value-items.result.now c.args.list.now c.as_slice-value-items.ensures c.loop-value.value-index c.value-item.result c.loop-value-test.true c.value-item.is (sym c.if-is_operator_list.ensures))

pub returns : goal.returns
returns c =
    sym (any-nowhere is_operator_list tree c.as_slice-value-items.result.now c.args.list.now c.as_slice-value-items.ensures c.loop-value.value-index c.loop-value-test.false c.loop-value.invariant)
