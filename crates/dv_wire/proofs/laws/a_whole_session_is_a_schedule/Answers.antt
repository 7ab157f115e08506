use Rattle.dv_wire.proofs.Plays.{session_plays}
use Rattle.dv_wire.proofs.laws.a_whole_session_is_a_schedule.Goals as goal

pub returns : goal.returns
returns c = session_plays
