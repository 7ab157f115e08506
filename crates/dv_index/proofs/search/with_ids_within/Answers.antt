use Rattle.std.proofs.lemmas.Result.{IfOk-weaker}
use Rattle.std.specs.BTreeMap.Range.{range_contains}
use Rattle.dv_order.specs.Key.{key_order}
use Rattle.dv_index.proofs.search.with_ids_within.Goals as goal

pub returns : goal.returns
returns c =
    IfOk-weaker c.documents_between.result _ _ (λ found is. (range_contains key_order c.in_ok-low.low c.in_ok-low.high, c.in_ok-low.ensures.holds, is)) c.documents_between.ensures
