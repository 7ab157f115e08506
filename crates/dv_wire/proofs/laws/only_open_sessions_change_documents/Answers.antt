use Rattle.std.proofs.Common.{refl}
use Rattle.dv_wire.proofs.Worlds.{opens_state, fed_closed, fed_nobody}
use Rattle.dv_wire.proofs.laws.only_open_sessions_change_documents.Goals as goal

pub returns-clause-opened : goal.returns-clause-opened
returns-clause-opened c = opens_state

pub returns-clause-ended : goal.returns-clause-ended
returns-clause-ended c = λ old session. refl

pub returns-clause-closed : goal.returns-clause-closed
returns-clause-closed c = λ old session fault there piece bytes answer new feeds.
    let is = fed_closed old new session piece bytes answer fault there feeds in
    ((is.0, is.1), is.2, is.3)

pub returns-clause-unknown : goal.returns-clause-unknown
returns-clause-unknown c = λ old session none piece bytes answer new feeds.
    let is = fed_nobody old new session piece bytes answer none feeds in
    ((is.0, is.1), is.2)
