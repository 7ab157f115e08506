use Rattle.std.proofs.Common.{arith}
use Rattle.dv_command.specs.Inner.View.{deletion_seen}
use Rattle.dv_catalog.specs.Effects.{delete_chosen}
use Rattle.dv_catalog.proofs.Cutting.{cuts_after}
use Rattle.dv_catalog.proofs.catalog.Catalog.delete.Goals as goal

pub returns-else-deletion-clause-marks : goal.returns-else-deletion-clause-marks
returns-else-deletion-clause-marks c =
    (cuts_after c.args.namespace.now (delete_chosen (deletion_seen c.args.deletion.now)) c.args.self.now c.in-Err.stopped c.delete_all.new.self c.delete_some.result c.delete_some.new.self (omega (arith, c.if-stopped-gt0.false))
    c.in-Err.ensures.made c.in-Err.ensures.views c.in-Err.ensures.marks c.delete_some.ensures).marks
