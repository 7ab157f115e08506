-- Each time one operator less is left.
use Rattle.std.proofs.Common.{length}
use Rattle.dv_change.proofs.chain.+feed_all.Given as goal

abbrev pub decreases-feed_all : goal.decreases-feed_all
decreases-feed_all g l = length l.turns.now
