use Rattle.dv_catalog.specs.Changes.{gone}
use Rattle.dv_catalog.proofs.Stopping.{made_next}
use Rattle.dv_catalog.proofs.delete.remove_each.Goals as goal

pub keys-preserved : goal.keys-preserved
keys-preserved c = made_next gone c.args.collection.now c.args.keys.now c.keys.place c.index-keys-place.result c.keys.collection c.remove.new.self c.keys-test.true c.index-keys-place.is c.keys.invariant c.in-Ok.ensures.ok
