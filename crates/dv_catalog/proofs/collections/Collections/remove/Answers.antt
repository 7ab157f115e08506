use Rattle.dv_catalog.proofs.ByNamespace.{standing-remove}
use Rattle.dv_catalog.proofs.collections.Collections.remove.Goals as goal

pub returns : goal.returns
returns c = rw c.self.view_is at (standing-remove c.self.inside.collections c.remove.new.self c.args.namespace.now c.remove.ensures.updates)
