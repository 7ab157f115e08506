use Rattle.std.proofs.Common.{map}
use Rattle.dv_update.specs.View.{edit}
use Rattle.dv_update.proofs.Stepwise.{no_conflict, none-left}
use Rattle.dv_update.proofs.order.are_apart.Goals as goal

pub returns-clause-apart : goal.returns-clause-apart
returns-clause-apart c = λ _. no_conflict (map edit c.args.edits.now) (c.edits.invariant (none-left c.edits.left.now c.in_default.ensures.cases))

pub returns-clause-steps : goal.returns-clause-steps
returns-clause-steps c = λ _. c.edits.invariant (none-left c.edits.left.now c.in_default.ensures.cases)
