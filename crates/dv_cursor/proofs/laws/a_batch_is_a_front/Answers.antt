use Rattle.dv_cursor.proofs.Joined.{batch_behind}
use Rattle.dv_cursor.proofs.laws.a_batch_is_a_front.Goals as goal

pub returns : goal.returns
returns c = batch_behind
