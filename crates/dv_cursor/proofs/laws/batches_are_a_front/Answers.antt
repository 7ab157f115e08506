use Rattle.dv_cursor.proofs.Joined.{joined_behind}
use Rattle.dv_cursor.proofs.laws.batches_are_a_front.Goals as goal

pub returns : goal.returns
returns c = joined_behind
