use Rattle.std.proofs.Common.{◌+◌, ◌*◌, length}
use Rattle.dv_update.proofs.filling.+beyond.Given as goal

abbrev pub decreases-beyond : goal.decreases-beyond
decreases-beyond l = 2 * length l.path.now + 1

abbrev pub decreases-beyond_in_document : goal.decreases-beyond_in_document
decreases-beyond_in_document l = 2 * length l.path.now

abbrev pub decreases-beyond_in_list : goal.decreases-beyond_in_list
decreases-beyond_in_list l = 2 * length l.path.now
