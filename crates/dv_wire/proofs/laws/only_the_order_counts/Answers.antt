use Rattle.std.specs.Prelude.{⊤}
use Rattle.dv_core.specs.Step.{MemoryStep}
use Rattle.dv_wire.proofs.Replies.{allows_any}
use Rattle.dv_wire.proofs.Orders.{ordered_state, ordered_answers, same_order, plain_plays}
use Rattle.dv_wire.proofs.laws.only_the_order_counts.Goals as goal

pub returns-clause-state : goal.returns-clause-state
returns-clause-state c = ordered_state

pub returns-clause-answers : goal.returns-clause-answers
returns-clause-answers c = ordered_answers

pub returns-clause-equal : goal.returns-clause-equal
returns-clause-equal c = same_order

pub returns-clause-allowed : goal.returns-clause-allowed
returns-clause-allowed c = λ world all. plain_plays MemoryStep (λ state. ⊤) (allows_any c.the_counted_step_is_allowed.ensures) world all tt
