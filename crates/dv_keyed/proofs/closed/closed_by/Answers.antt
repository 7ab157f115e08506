use Rattle.std.proofs.lemmas.Result.{IfOk-weaker}
use Rattle.dv_keyed.proofs.Decided.{closed-both, found-weaker}
use Rattle.dv_keyed.proofs.closed.closed_by.Goals as goal

pub returns-in-len2 : goal.returns-in-len2
returns-in-len2 c =
    IfOk-weaker c.closed_by_both.result _ _ (λ found. found-weaker _ _ found (λ ends. closed-both ends c.as_slice.result.now c.args.conditions.now c.lower-item.result c.upper-item.result c.as_slice.ensures c.in-len2.len_at_least c.in-len2.len_below c.lower-item.is c.upper-item.is)) c.closed_by_both.ensures
