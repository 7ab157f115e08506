-- Both sides have the rows that they had.
use Rattle.std.proofs.Common.{◌∙◌}
use Rattle.dv_change.specs.Inner.Answered.{ok-one}
use Rattle.dv_join.proofs.operator.LookupOperatorOperator.pack.Goals as goal

pub returns-clause-holds : goal.returns-clause-holds
returns-clause-holds c = ok-one c.pack-2.result c.pack-2.ensures (λ packed others left held. record {
  left = held.left;
  foreign = held.foreign;
  left_by = λ k. c.in_ok-pack.ensures k ∙ held.left_by k;
  foreign_by = λ k. packed k ∙ held.foreign_by k;
  one = held.one;
})
