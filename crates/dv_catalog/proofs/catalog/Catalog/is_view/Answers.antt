use Rattle.std.proofs.Common.{sym, ◌∙◌}
use Rattle.dv_catalog.proofs.Keeping.{view_forms}
use Rattle.dv_catalog.proofs.catalog.Catalog.is_view.Goals as goal

pub returns : goal.returns
returns c = rw (← c.self.view_is) (c.has.ensures ∙ sym (view_forms c.self.inside.views c.args.namespace.now))
