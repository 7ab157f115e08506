use Rattle.dv_wire.proofs.Worlds.{opened_other, fed_other, other-but}
use Rattle.dv_wire.proofs.laws.sessions_keep_to_themselves.Goals as goal

pub returns-clause-opened : goal.returns-clause-opened
returns-clause-opened c = opened_other

pub returns-clause-fed : goal.returns-clause-fed
returns-clause-fed c = λ old session other differs piece bytes answer new feeds. fed_other old new session piece bytes answer other feeds differs

pub returns-clause-ended : goal.returns-clause-ended
returns-clause-ended c = λ old session other differs. other-but other session old.sessions differs
