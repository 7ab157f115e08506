use Rattle.dv_sort.proofs.Told.{only}
use Rattle.dv_sort.proofs.laws.order_is_all.Goals as goal

pub returns : goal.returns
returns c = only
