use Rattle.dv_bson.proofs.Both.{document_takes}
use Rattle.dv_bson.proofs.laws.what_is_read_is_spelled.Goals as goal

pub returns : goal.returns
returns c = document_takes
