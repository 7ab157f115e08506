-- What is left of the two paths parts as the whole paths do.
use Rattle.std.proofs.Common.{◌≡◌, length}
use Rattle.dv_update.specs.Inner.StandIn.{parting}
use Rattle.dv_update.proofs.far.parting.Given as goal

abbrev pub invariant-components : goal.invariant-components
invariant-components l = parting l.before l.path ≡ parting l.ahead l.rest

abbrev pub decreases-components : goal.decreases-components
decreases-components l = length l.rest
