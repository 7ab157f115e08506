use Rattle.dv_core.proofs.Marked.{refused_left, wanting_left}
use Rattle.dv_core.proofs.laws.a_refused_command_changes_nothing.Goals as goal

pub returns-clause-plain : goal.returns-clause-plain
returns-clause-plain c reply refused old new session command steps = refused_left old new session command reply steps refused

pub returns-clause-wanting : goal.returns-clause-wanting
returns-clause-wanting c reply refused old new session command steps = wanting_left old new session command reply steps refused
