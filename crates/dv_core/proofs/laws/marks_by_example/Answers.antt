use Rattle.dv_core.proofs.WorkedViews.{marks}
use Rattle.dv_core.proofs.laws.marks_by_example.Goals as goal

pub returns : goal.returns
returns c = marks
