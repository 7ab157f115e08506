use Rattle.std.proofs.Common.{◌+◌, ◌*◌, length}
use Rattle.dv_path.proofs.removing.+removing.Given as goal

abbrev pub decreases-left_of : goal.decreases-left_of
decreases-left_of l = 2 * length l.rest.now

abbrev pub decreases-remove_from_document : goal.decreases-remove_from_document
decreases-remove_from_document l = 2 * length l.rest.now + 1

abbrev pub decreases-remove_from_list : goal.decreases-remove_from_list
decreases-remove_from_list l = 2 * length l.rest.now + 1
