use Rattle.std.proofs.Common.{arith}
use Rattle.dv_group.proofs.group_state.law_few.Goals as goal

pub returns : goal.returns
returns c = omega (arith, c.len-count.ensures)
