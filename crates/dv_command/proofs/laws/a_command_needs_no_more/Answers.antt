use Rattle.dv_command.proofs.Needs.{same_asked}
use Rattle.dv_command.proofs.laws.a_command_needs_no_more.Goals as goal

pub returns : goal.returns
returns c = same_asked
