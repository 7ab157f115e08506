use Rattle.std.proofs.Common.{◌+◌}
use Rattle.dv_core.proofs.reserve.Reserve.take.Given as goal

abbrev pub decreases-pieces : goal.decreases-pieces
decreases-pieces l = l.self.missing + l.size
