use Rattle.dv_bson.proofs.Both.{spelled_once}
use Rattle.dv_bson.proofs.laws.no_spelling_begins_another.Goals as goal

pub returns : goal.returns
returns c = spelled_once
