use Rattle.std.proofs.Common.{map}
use Rattle.dv_update.specs.Inner.Collected.{Steps}
use Rattle.dv_update.specs.View.{edit}
use Rattle.dv_update.proofs.Stepwise.{steps-in_order}
use Rattle.dv_update.proofs.order.in_order.Goals as goal

pub returns-then-are_apart : goal.returns-then-are_apart
returns-then-are_apart c =
    let steps : Steps (map edit c.args.edits.items) = rw (← c.deref.ensures.value) (c.are_apart.ensures.steps c.if-are_apart.true) in
    rw c.of.ensures (steps-in_order (map edit c.args.edits.items) steps)
