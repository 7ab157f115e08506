use Rattle.std.proofs.Common.{sym}
use Rattle.std.specs.FinMap as finite
use Rattle.dv_catalog.proofs.Keys.{ordered_none}
use Rattle.dv_catalog.proofs.collections.Collections.rows.Goals as goal

pub returns-in-None-clause-ordered : goal.returns-in-None-clause-ordered
returns-in-None-clause-ordered c = ordered_none (finite.get c.args.self.now c.args.namespace.now) (sym c.in-None.ensures)
