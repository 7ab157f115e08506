use Rattle.dv_wire.proofs.Replies.{silent_done}
use Rattle.dv_wire.proofs.laws.what_is_untold_is_done.Goals as goal

pub returns : goal.returns
returns c = λ session old message kept run more on. silent_done session old message kept run more on.0 on.1
