-- The views of the registry are sound, and the marks are theirs.
use Rattle.std.proofs.Common.{subst}
use Rattle.dv_catalog.specs.Marks.{LiveReadNoStale, Marked}
use Rattle.dv_catalog.proofs.OverLive.{live_read_no_stale}
use Rattle.dv_catalog.proofs.catalog.Catalog.law_live_read_no_stale.Goals as goal

pub returns : goal.returns
returns c =
    subst (λ (m : Marked). LiveReadNoStale m.state.views m.marks) c.self.view_is (live_read_no_stale c.self.inside.views c.law_sound.ensures)
