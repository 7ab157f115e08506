use Rattle.std.proofs.Common.{◌+◌, ◌*◌, length}
use Rattle.dv_path.proofs.placing.+placing.Given as goal

abbrev pub decreases-put_into_value : goal.decreases-put_into_value
decreases-put_into_value l = 2 * length l.rest.now

abbrev pub decreases-put_into_document : goal.decreases-put_into_document
decreases-put_into_document l = 2 * length l.rest.now + 1

abbrev pub decreases-put_into_list : goal.decreases-put_into_list
decreases-put_into_list l = 2 * length l.rest.now + 1
