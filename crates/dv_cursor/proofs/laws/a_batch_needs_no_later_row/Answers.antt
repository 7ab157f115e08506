use Rattle.dv_cursor.proofs.Batches.{batch_taken}
use Rattle.dv_cursor.proofs.laws.a_batch_needs_no_later_row.Goals as goal

pub returns : goal.returns
returns c = batch_taken
