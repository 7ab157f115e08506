use Rattle.std.proofs.Common.{ap, sym, ◌∙◌, refl}
use Rattle.std.specs.Option.{option_map}
use Rattle.dv_views.specs.Inner.Views.{view_under}
use Rattle.dv_catalog.specs.Inner.StatsView.{stats_seen}
use Rattle.dv_catalog.proofs.StatsTold.{no_stats, stats_are}
use Rattle.dv_catalog.proofs.catalog.Catalog.stats.Goals as goal

pub returns-in_err-state : goal.returns-in_err-state
returns-in_err-state c =
    rw (← c.self.view_is) (ap (option_map stats_seen) c.from_residual.ensures ∙ sym (no_stats c.args.namespace.now c.self.inside.collections c.self.inside.views (sym c.in_err-state.ensures)))

pub returns : goal.returns
returns c =
    let name = c.args.namespace.now in
    let collections = c.self.inside.collections in
    let vs = c.self.inside.views in
    rw (← c.self.view_is, c.is_live.ensures)
    (stats_are name collections vs (c.law_shown.ensures.shown collections name c.self.invariant.right) (view_under name vs) refl c.in_ok-state.state c.in_ok-rows.rows c.in_ok-ticks.ticks c.in_ok-state.ensures c.in_ok-rows.ensures c.in_ok-ticks.ensures)
