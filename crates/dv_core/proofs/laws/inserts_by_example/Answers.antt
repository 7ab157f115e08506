use Rattle.dv_core.proofs.Worked.{inserts}
use Rattle.dv_core.proofs.laws.inserts_by_example.Goals as goal

pub returns : goal.returns
returns c = inserts
