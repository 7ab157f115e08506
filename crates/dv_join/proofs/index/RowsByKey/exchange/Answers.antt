-- First the old row is taken out, then the new one is set.
use Rattle.std.proofs.lemmas.Result.{on_ok_weaker}
use Rattle.std.specs.BTreeSet.{contains}
use Rattle.dv_change.specs.Inner.Ordered.{gone}
use Rattle.dv_order.specs.Key.{KeyTree, key_order}
use Rattle.dv_join.specs.Inner.Indexed.{row_set, under}
use Rattle.dv_join.proofs.Indexes.{exchanged-under}
use Rattle.dv_join.proofs.index.RowsByKey.exchange.Goals as goal

pub returns : goal.returns
returns c =
    let pos = c.args.pos.now in
    on_ok_weaker c.set.result (λ came (k : KeyTree). exchanged-under (gone pos) (row_set pos c.args.row.now) (under k c.args.self.now) (under k c.take_out.new.self) (under k c.set.new.self) (contains key_order c.args.old_keys.now k) (contains key_order c.args.new_keys k)
    (c.in_ok-take_out.ensures k) (came k)) c.set.ensures
