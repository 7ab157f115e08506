-- Change by change.
use Rattle.dv_change.specs.Inner.DiffLaws.{positioned-changes}
use Rattle.dv_change.proofs.laws.changes_keep_rows_in_order.Goals as goal

pub returns : goal.returns
returns c = λ rows changes are exact. positioned-changes rows changes are exact
