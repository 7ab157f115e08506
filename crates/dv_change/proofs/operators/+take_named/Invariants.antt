-- Each time one operator less is left.
use Rattle.std.proofs.Common.{length}
use Rattle.dv_change.proofs.operators.+take_named.Given as goal

abbrev pub decreases-take_named : goal.decreases-take_named
decreases-take_named g l = length l.operators.now
