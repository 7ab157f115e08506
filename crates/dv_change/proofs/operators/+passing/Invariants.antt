-- Each time one operator less is left, or one change alone.
use Rattle.std.proofs.Common.{◌+◌, ◌*◌, length}
use Rattle.dv_change.proofs.operators.+passing.Given as goal

abbrev pub decreases-take_one : goal.decreases-take_one
decreases-take_one g l = 2 * length l.operators.now

abbrev pub decreases-take_all : goal.decreases-take_all
decreases-take_all g l = 2 * length l.operators.now + 1
