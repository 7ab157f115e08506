use Rattle.dv_wire.proofs.Worlds.{opened_there, ended_gone}
use Rattle.dv_wire.proofs.laws.sessions_come_and_go.Goals as goal

pub returns-clause-opened : goal.returns-clause-opened
returns-clause-opened c = opened_there

pub returns-clause-ended : goal.returns-clause-ended
returns-clause-ended c = ended_gone
