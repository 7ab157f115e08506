use Rattle.dv_core.proofs.WorkedFinds.{finds}
use Rattle.dv_core.proofs.laws.finds_by_example.Goals as goal

pub returns : goal.returns
returns c = finds
