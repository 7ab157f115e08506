use Rattle.dv_bson.proofs.Both.{no_fault_where_spelled}
use Rattle.dv_bson.proofs.laws.a_fault_where_nothing_is_spelled.Goals as goal

pub returns : goal.returns
returns c = no_fault_where_spelled
