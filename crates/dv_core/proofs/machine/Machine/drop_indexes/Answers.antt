use Rattle.std.proofs.Common.{◌≡◌, Ok, IfOk}
use Rattle.dv_catalog.specs.IndexMaking.{indexes_dropped}
use Rattle.dv_command.specs.Replies.{drop_indexes_reply}
use Rattle.dv_command.specs.Inner.View.{drop_indexes_seen}
use Rattle.dv_core.specs.Indexes.{index_count, unindexed}
use Rattle.dv_core.proofs.Endings.{done_ends, unindexed_so}
use Rattle.dv_core.proofs.machine.Machine.drop_indexes.Goals as goal

pub returns-in-Ok-clause-reply : goal.returns-in-Ok-clause-reply
returns-in-Ok-clause-reply c =
    let asked = drop_indexes_seen c.args.asked in
    let old = c.self.inside.catalog.state in
    let new = c.drop_indexes.new.self.state in
    let before = index_count asked.namespace old in
    let made : indexes_dropped asked.namespace asked.index old ≡ Ok new = rw (← c.deref.ensures, ← c.deref-2.ensures) c.in-Ok.ensures.made in
    let count = rw c.deref.ensures at c.in-Ok.ensures.count in
    let replied : IfOk c.drop_indexes_reply.result (λ reply. reply ≡ drop_indexes_reply before) = rw count at c.drop_indexes_reply.ensures in
    rw (← c.self.view_is)
    (done_ends (unindexed asked old) old new (drop_indexes_reply before) (unindexed_so asked old new made) c.drop_indexes_reply.result replied c.told.result c.told.ensures.ok c.told.ensures.err)
