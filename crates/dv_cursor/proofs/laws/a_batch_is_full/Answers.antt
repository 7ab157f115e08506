use Rattle.dv_cursor.proofs.Full.{batch_within, batch_longest, batch_some}
use Rattle.dv_cursor.proofs.laws.a_batch_is_full.Goals as goal

pub returns : goal.returns
returns c = record { within = batch_within; longest = batch_longest; some = batch_some }
