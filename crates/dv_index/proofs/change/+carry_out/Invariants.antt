use Rattle.std.proofs.Common.{length}
use Rattle.dv_index.proofs.change.+carry_out.Given as goal

abbrev pub decreases-carry_out : goal.decreases-carry_out
decreases-carry_out l = length l.indexes.now
