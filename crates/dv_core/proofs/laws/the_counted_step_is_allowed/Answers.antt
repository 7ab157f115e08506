use Rattle.dv_core.proofs.Marked.{counted_steps}
use Rattle.dv_core.proofs.laws.the_counted_step_is_allowed.Goals as goal

pub returns : goal.returns
returns c = counted_steps
