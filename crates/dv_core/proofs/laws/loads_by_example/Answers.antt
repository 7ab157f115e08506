use Rattle.dv_core.proofs.WorkedLoads.{loads}
use Rattle.dv_core.proofs.laws.loads_by_example.Goals as goal

pub returns : goal.returns
returns c = loads
