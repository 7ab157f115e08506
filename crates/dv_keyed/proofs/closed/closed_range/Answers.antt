use Rattle.std.proofs.lemmas.Result.{IfOk-weaker}
use Rattle.dv_keyed.proofs.Decided.{closed-part, found-weaker}
use Rattle.dv_keyed.proofs.closed.closed_range.Goals as goal

pub returns-in-len1 : goal.returns-in-len1
returns-in-len1 c =
    IfOk-weaker c.closed_under.result _ _ (λ found. found-weaker _ _ found (λ ends. closed-part ends c.args.path.now c.members.result.now c.args.filter.now c.part-item.result c.members.ensures c.in-len1.len_at_least c.in-len1.len_below c.part-item.is)) c.closed_under.ensures
