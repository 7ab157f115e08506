use Rattle.std.proofs.Common.{refl, arith}
use Rattle.dv_wire.proofs.Worlds.{opened_numbered, refused_same, fed_numbered, ended_numbered}
use Rattle.dv_wire.proofs.laws.numbers_are_never_used_again.Goals as goal

pub returns-clause-before : goal.returns-clause-before
returns-clause-before c = λ state. omega arith

pub returns-clause-opened : goal.returns-clause-opened
returns-clause-opened c = opened_numbered

pub returns-clause-refused : goal.returns-clause-refused
returns-clause-refused c = refused_same

pub returns-clause-fed : goal.returns-clause-fed
returns-clause-fed c = λ old session numbered piece bytes answer new feeds. fed_numbered old new session piece bytes answer numbered feeds

pub returns-clause-ended : goal.returns-clause-ended
returns-clause-ended c = λ old session numbered. (ended_numbered old session numbered, refl)
