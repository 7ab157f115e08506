use Rattle.dv_message.proofs.Worked.{headers}
use Rattle.dv_message.proofs.laws.headers_by_example.Goals as goal

pub returns : goal.returns
returns c = headers
