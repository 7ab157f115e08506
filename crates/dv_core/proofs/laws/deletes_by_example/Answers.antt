use Rattle.dv_core.proofs.WorkedFinds.{deletes}
use Rattle.dv_core.proofs.laws.deletes_by_example.Goals as goal

pub returns : goal.returns
returns c = deletes
