-- Each time one operator less is left.
use Rattle.std.proofs.Common.{length}
use Rattle.dv_change.proofs.operators.+fill_all.Given as goal

abbrev pub decreases-fill_all : goal.decreases-fill_all
decreases-fill_all g l = length l.operators.now
