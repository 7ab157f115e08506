use Rattle.std.proofs.Common.{◌≡◌, ◌++◌, drop}
use Rattle.dv_views.specs.Placed.{lookups_of}
use Rattle.dv_views.proofs.lookups.lookups_of.Given as goal

abbrev pub invariant-stages : goal.invariant-stages
invariant-stages l = l.lookups.items ++ lookups_of (drop l.stage-index l.stages) l.source ≡ lookups_of l.fn.stages l.source
