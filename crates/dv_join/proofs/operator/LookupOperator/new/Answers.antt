-- Nothing is held.
use Rattle.std.proofs.Common.{refl}
use Rattle.dv_change.specs.Inner.RowLaws.{positioned-none}
use Rattle.dv_join.proofs.operator.LookupOperator.new.Goals as goal

pub returns-clause-holds : goal.returns-clause-holds
returns-clause-holds c = record {
  left = positioned-none;
  foreign = positioned-none;
  left_by = c.new.ensures;
  foreign_by = c.new-2.ensures;
  one = refl;
}
