use Rattle.std.proofs.Common.{◌+◌, ◌*◌, length}
use Rattle.dv_path.proofs.refusing.+refusing.Given as goal

abbrev pub decreases-refusal_behind : goal.decreases-refusal_behind
decreases-refusal_behind l = 2 * length l.rest.now

abbrev pub decreases-refusal_in_list : goal.decreases-refusal_in_list
decreases-refusal_in_list l = 2 * length l.rest.now + 1
