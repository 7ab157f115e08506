use Rattle.dv_index.proofs.Built.{last_dropped}
use Rattle.dv_index.proofs.laws.indexes_come_and_go.Goals as goal

pub returns-clause-others : goal.returns-clause-others
returns-clause-others c name path unique xs other fresh = last_dropped name path unique other xs fresh
