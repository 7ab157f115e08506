use Rattle.std.proofs.Common.{◌∙◌, List, ℕ, ap, not, length}
use Rattle.std.specs.Prelude.{◌==◌}
use Rattle.dv_views.specs.Inner.Readers.{listing_seen}
use Rattle.dv_views.specs.Inner.Older.{views}
use Rattle.dv_views.specs.Inner.Views.{Views, reads_name}
use Rattle.dv_views.proofs.Heights.{forms_of, read_forms}
use Rattle.dv_views.proofs.ReadBy.{read_if_some}
use Rattle.dv_views.proofs.told_registry.ToldRegistry.is_read.Goals as goal

pub returns : goal.returns
returns c =
    let es = c.self.inside.views.entries in
    let namespace = c.args.namespace.now in
    ap not (c.is_empty.ensures ∙ ap (λ (ps : List ℕ). length ps == 0) c.under.ensures)
    ∙ read_if_some (forms_of es) (listing_seen c.self.inside.readers.lists.entries) namespace c.self.invariant.readers
    ∙ read_forms namespace (views es)
    ∙ ap (λ (vs : Views). reads_name vs namespace) c.self.view_is
