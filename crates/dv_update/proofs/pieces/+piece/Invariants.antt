-- Each step goes on with fewer bytes.
use Rattle.std.proofs.Common.{◌+◌, ◌*◌}
use Rattle.dv_update.proofs.pieces.+piece.Given as goal

abbrev pub decreases-doubled : goal.decreases-doubled
decreases-doubled l = 2 * l.size

abbrev pub decreases-piece : goal.decreases-piece
decreases-piece l = 2 * l.size + 1
