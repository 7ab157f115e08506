use Rattle.dv_path.proofs.Placed.{put_taken, put_blocked}
use Rattle.dv_path.proofs.laws.slots_tell_what_is_put.Goals as goal

pub returns-clause-taken : goal.returns-clause-taken
returns-clause-taken c = put_taken

pub returns-clause-blocked : goal.returns-clause-blocked
returns-clause-blocked c = put_blocked
