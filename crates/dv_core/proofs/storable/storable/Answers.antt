use Rattle.std.proofs.Common.{arith}
use Rattle.dv_value.specs.View.{tree}
use Rattle.dv_core.proofs.Stored.{moved_within}
use Rattle.dv_core.proofs.storable.storable.Goals as goal

pub returns-then-not-fits-clause-stored : goal.returns-then-not-fits-clause-stored
returns-then-not-fits-clause-stored c =
    grind (arith, moved_within (tree c.in_ok-id.id.now) c.args.document.now c.fits.result c.in_ok-id.ensures c.fits.ensures)

pub returns-clause-stored : goal.returns-clause-stored
returns-clause-stored c =
    grind (arith, moved_within (tree c.in_ok-id.id.now) c.args.document.now c.fits.result c.in_ok-id.ensures c.fits.ensures)
