use Rattle.dv_bson.proofs.Written.{framed_put}
use Rattle.dv_bson.proofs.writer.close.Goals as goal

pub returns : goal.returns
returns c = λ elements first p. framed_put _ _ _ _ _ _ _ _ _ _ p c.put-end.ensures c.put.ensures c.to_le_bytes.ensures
