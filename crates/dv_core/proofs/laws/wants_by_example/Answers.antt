use Rattle.dv_core.proofs.Worked.{wants}
use Rattle.dv_core.proofs.laws.wants_by_example.Goals as goal

pub returns : goal.returns
returns c = wants
