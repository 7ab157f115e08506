use Rattle.std.proofs.Common.{◌∙◌, ap, arith, is_lt}
use Rattle.dv_value.specs.View.{tree}
use Rattle.dv_order.specs.Order.{order}
use Rattle.dv_match.proofs.Chosen.{before-first, behind-last, less-from}
use Rattle.dv_match.proofs.ascending.place_in_block.Goals as goal

pub returns-then-is_lt : goal.returns-then-is_lt
returns-then-is_lt c =
    let v = tree c.args.value.now in
    let first = c.index-block-0.result in
    before-first c.args.block.now v c.requires.ascending first c.requires.some c.index-block-0.is (less-from (order v (tree first)) c.is_lt.result (c.is_lt.ensures ∙ ap is_lt c.compare.ensures) c.if-is_lt.true)

pub returns-then-is_lt-2 : goal.returns-then-is_lt-2
returns-then-is_lt-2 c =
    let v = tree c.args.value.now in
    let last = c.index-block-block.result in
    behind-last c.args.block.now v c.requires.ascending _ last (omega arith) c.index-block-block.is (less-from (order (tree last) v) c.is_lt-2.result (c.is_lt-2.ensures ∙ ap is_lt c.compare-2.ensures) c.if-is_lt-2.true)
