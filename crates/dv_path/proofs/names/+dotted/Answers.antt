use Rattle.std.proofs.Common.{arith}
use Rattle.dv_path.proofs.Left.{are_elements_dotted-drop}
use Rattle.dv_path.proofs.names.+dotted.Goals as goal

pub are_elements_dotted-returns-then-is_dotted : goal.are_elements_dotted-returns-then-is_dotted
are_elements_dotted-returns-then-is_dotted t c =
    let left = are_elements_dotted-drop c.as_slice-value-items.result.now c.args.list.now c.elements.value-index c.value-item.result c.as_slice-value-items.ensures c.elements-test.true c.value-item.is in
    grind (arith, left)
