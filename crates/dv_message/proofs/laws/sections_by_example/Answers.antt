use Rattle.dv_message.proofs.Worked.{sections}
use Rattle.dv_message.proofs.laws.sections_by_example.Goals as goal

pub returns : goal.returns
returns c = sections
