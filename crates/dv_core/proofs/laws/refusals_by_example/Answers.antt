use Rattle.dv_core.proofs.Worked.{refusals}
use Rattle.dv_core.proofs.laws.refusals_by_example.Goals as goal

pub returns : goal.returns
returns c = refusals
