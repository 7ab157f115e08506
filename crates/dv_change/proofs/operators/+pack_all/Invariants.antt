-- Each time one operator less is left.
use Rattle.std.proofs.Common.{length}
use Rattle.dv_change.proofs.operators.+pack_all.Given as goal

abbrev pub decreases-pack_all : goal.decreases-pack_all
decreases-pack_all g l = length l.operators.now
