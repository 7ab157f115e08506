use Rattle.std.proofs.Common.{◌∙◌}
use Rattle.std.specs.String.{string_bytes}
use Rattle.dv_catalog.proofs.ByNamespace.{standing-insert, with_empty}
use Rattle.dv_catalog.proofs.collections.Collections.make_empty.Goals as goal

pub returns-clause-ok : goal.returns-clause-ok
returns-clause-ok c =
    let with_none = standing-insert c.self.inside.collections c.insert.new.self (string_bytes c.in_ok-namespace.namespace) c.in_ok-collection.collection c.in_ok-insert.ensures.updates in
    (rw (c.in_ok-collection.ensures, c.self.view_is, c.in_ok-namespace.ensures.ok) at with_none) ∙ with_empty c.args.self.now c.args.namespace.now c.requires
