use Rattle.dv_core.specs.Told.{batch_told}
use Rattle.dv_core.proofs.Endings.{told_so}
use Rattle.dv_core.proofs.store.Store.made_of.Goals as goal

pub returns-in-Batch-clause-made : goal.returns-in-Batch-clause-made
returns-in-Batch-clause-made c = rw c.in-Batch.is (told_so (batch_told c.in-Batch.batch) c.body_of.result c.told.result c.body_of.ensures.body c.told.ensures.ok c.told.ensures.err)
