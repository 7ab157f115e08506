use Rattle.std.proofs.Common.{◌≡◌, refl, map, Ok, IfOk}
use Rattle.dv_catalog.specs.IndexMaking.{indexes_created}
use Rattle.dv_command.specs.Replies.{create_indexes_reply}
use Rattle.dv_command.specs.Inner.View.{create_indexes_seen}
use Rattle.dv_core.specs.Indexes.{form_asked, index_count, indexed}
use Rattle.dv_core.proofs.Endings.{done_ends, indexed_so, wanting_ends}
use Rattle.dv_core.proofs.machine.Machine.create_indexes.Goals as goal

pub returns-in_default-clause-reply : goal.returns-in_default-clause-reply
returns-in_default-clause-reply c = wanting_ends (indexed (create_indexes_seen c.args.asked) c.args.self.now.catalog) c.args.self.now.catalog c.args.self.now.catalog c.refuse.result c.refuse.ensures refl

pub returns-in-Ok-create_indexes-clause-reply : goal.returns-in-Ok-create_indexes-clause-reply
returns-in-Ok-create_indexes-clause-reply c =
    let asked = create_indexes_seen c.args.asked in
    let old = c.self.inside.catalog.state in
    let new = c.create_indexes.new.self.state in
    let before = index_count asked.namespace old in
    let after = index_count asked.namespace new in
    let made : indexes_created asked.namespace (map form_asked asked.indexes) old ≡ Ok new = rw (← c.deref.ensures, ← c.in-Ok.ensures) c.in-Ok-create_indexes.ensures.made in
    let counts = rw c.deref.ensures at c.in-Ok-create_indexes.ensures.counts in
    let replied : IfOk c.create_indexes_reply.result (λ reply. reply ≡ create_indexes_reply before after) = rw counts at c.create_indexes_reply.ensures in
    rw (← c.self.view_is)
    (done_ends (indexed asked old) old new (create_indexes_reply before after) (indexed_so asked old new made) c.create_indexes_reply.result replied c.told.result c.told.ensures.ok c.told.ensures.err)
