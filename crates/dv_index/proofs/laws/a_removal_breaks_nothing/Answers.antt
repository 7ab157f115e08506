use Rattle.dv_index.proofs.Apart.{removal_breaks_nothing}
use Rattle.dv_index.proofs.laws.a_removal_breaks_nothing.Goals as goal

pub returns : goal.returns
returns c indexes k ds unbroken = removal_breaks_nothing indexes k ds unbroken
