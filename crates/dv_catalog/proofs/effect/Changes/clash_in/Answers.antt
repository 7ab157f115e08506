use Rattle.std.proofs.Common.{sym}
use Rattle.dv_catalog.proofs.Breaking.{gone_breaks_nothing}
use Rattle.dv_catalog.proofs.effect.Changes.clash_in.Goals as goal

pub returns-in-Gone : goal.returns-in-Gone
returns-in-Gone c = rw c.in-Gone.is (sym (gone_breaks_nothing c.args.collection.now.indexes c.in-Gone.field-0.items c.args.collection.now.documents))
