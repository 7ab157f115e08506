-- Nothing is held.
use Rattle.std.proofs.Common.{ap, refl}
use Rattle.dv_change.specs.Inner.RowLaws.{positioned-none}
use Rattle.dv_group.specs.Inner.Members.{group_members}
use Rattle.dv_group.proofs.group_operator.GroupOperator.new.Goals as goal

pub returns-clause-holds : goal.returns-clause-holds
returns-clause-holds c = record {
  positioned = positioned-none;
  members = λ k. ap (group_members k) c.new.ensures.empty;
  none = refl;
}
