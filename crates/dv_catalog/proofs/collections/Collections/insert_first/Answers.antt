use Rattle.std.proofs.Common.{ap, refl}
use Rattle.std.specs.String.{string_bytes}
use Rattle.dv_catalog.specs.State.{collection_at}
use Rattle.dv_catalog.proofs.ByNamespace.{standing-insert, makes_new}
use Rattle.dv_catalog.proofs.collections.Collections.insert_first.Goals as goal

pub returns : goal.returns
returns c =
    let with_first = standing-insert c.self.inside.collections c.insert-2.new.self (string_bytes c.in_ok-namespace.namespace) c.insert.new.self c.in_ok-insert-2.ensures.updates in
    makes_new c.args.self.now c.args.namespace.now c.args.document _ (ap collection_at c.requires.fresh) _ refl
    (rw (c.in_ok-insert.ensures.ok, c.in_ok-collection.ensures, c.self.view_is, c.in_ok-namespace.ensures.ok) at with_first)
