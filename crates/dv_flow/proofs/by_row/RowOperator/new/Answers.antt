-- Nothing is held.
use Rattle.std.proofs.Common.{refl}
use Rattle.dv_change.specs.Inner.RowLaws.{positioned-none}
use Rattle.dv_flow.proofs.by_row.RowOperator.new.Goals as goal

pub returns-clause-holds : goal.returns-clause-holds
returns-clause-holds g c = record { positioned = positioned-none; none = refl }
