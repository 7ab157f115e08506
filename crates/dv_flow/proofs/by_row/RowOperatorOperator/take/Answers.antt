-- Whatever rows it has returned, none are kept.
use Rattle.dv_change.specs.Inner.Answered.{ok-one}
use Rattle.dv_flow.proofs.by_row.RowOperatorOperator.take.Goals as goal

pub returns-clause-out : goal.returns-clause-out
returns-clause-out g c = ok-one c.take_change.result c.take_change.ensures.out (λ out others left change held comes. out others left change held comes tt)

pub returns-clause-ticks : goal.returns-clause-ticks
returns-clause-ticks g c = ok-one c.take_change.result c.take_change.ensures.ticks (λ ticks others left change held comes. ticks others left change held comes tt)
