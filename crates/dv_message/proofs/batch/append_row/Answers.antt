use Rattle.dv_message.proofs.Batches.{row_written}
use Rattle.dv_message.proofs.batch.append_row.Goals as goal

pub returns-in-Ok-clause-ok : goal.returns-in-Ok-clause-ok
returns-in-Ok-clause-ok c = row_written c.args.place c.args.row.now _ _ _ c.in_ok-append_number.ensures.ok c.in-Ok.ensures.ok
