-- Each time one operator less is left.
use Rattle.std.proofs.Common.{length}
use Rattle.dv_change.proofs.chain.+feed_named.Given as goal

abbrev pub decreases-feed_named : goal.decreases-feed_named
decreases-feed_named g l = length l.turns.now
