use Rattle.dv_wire.proofs.reply.Body.append.Goals as goal

pub returns-in-Batch-clause-ok : goal.returns-in-Batch-clause-ok
returns-in-Batch-clause-ok c = rw c.in-Batch.is (rw (c.name.ensures, c.deref.ensures, c.deref-in-Batch.ensures.value) at c.append_batch.ensures.ok)
