use Rattle.dv_path.proofs.Placed.{remove_nothing}
use Rattle.dv_path.proofs.laws.what_is_not_there_is_not_removed.Goals as goal

pub returns : goal.returns
returns c = remove_nothing
