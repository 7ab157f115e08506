use Rattle.dv_core.proofs.Worked.{reads}
use Rattle.dv_core.proofs.laws.reads_by_example.Goals as goal

pub returns : goal.returns
returns c = reads
