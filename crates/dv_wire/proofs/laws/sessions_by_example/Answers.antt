use Rattle.dv_wire.proofs.Worked.{sessions}
use Rattle.dv_wire.proofs.laws.sessions_by_example.Goals as goal

pub returns : goal.returns
returns c = sessions
