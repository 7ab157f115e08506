use Rattle.std.proofs.Common.{◌∙◌, refl}
use Rattle.dv_views.specs.Inner.Views.{view_under}
use Rattle.dv_catalog.proofs.StatsTold.{stored_are}
use Rattle.dv_catalog.proofs.catalog.Catalog.stored_rows.Goals as goal

pub returns : goal.returns
returns c =
    let name = c.args.namespace.now in
    let collections = c.self.inside.collections in
    let vs = c.self.inside.views in
    rw (← c.self.view_is)
    (c.rows.ensures ∙ stored_are name collections vs (c.law_shown.ensures.shown collections name c.self.invariant.right) (view_under name vs) refl)
