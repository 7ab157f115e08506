use Rattle.std.proofs.Common.{[], ◌∷◌}
use Rattle.std.specs.String.{string_bytes}
use Rattle.dv_catalog.specs.Inner.CatalogParts.{marked_of}
use Rattle.dv_catalog.proofs.Refreshed.{reads_on}
use Rattle.dv_catalog.proofs.catalog.Catalog.find.Goals as goal

pub returns-clause-marks : goal.returns-clause-marks
returns-clause-marks c =
    let collections = c.self.inside.collections in
    rw (← c.self.view_is)
    (reads_on (string_bytes c.args.find.now.namespace ∷ []) (marked_of collections c.self.inside.views) (marked_of collections c.refresh_under.new.registry) (tt {0}) (rw c.deref.ensures at c.in_ok-refresh_under.ensures.marks) c.scan.result)
