-- Nothing was changed.
use Rattle.std.proofs.Common.{◌≡◌}
use Rattle.dv_catalog.proofs.catalog.Catalog.delete_some.Given as goal

abbrev pub invariant-halves : goal.invariant-halves
invariant-halves l = l.self ≡ l.fn.self

abbrev pub decreases-halves : goal.decreases-halves
decreases-halves l = l.most
