use Rattle.dv_wire.proofs.SteppedAlong.{steps_play}
use Rattle.dv_wire.proofs.laws.steps_are_a_schedule.Goals as goal

pub returns : goal.returns
returns c = steps_play
