use Rattle.dv_wire.proofs.Worked.{wants}
use Rattle.dv_wire.proofs.laws.want_of_memory_by_example.Goals as goal

pub returns : goal.returns
returns c = wants
