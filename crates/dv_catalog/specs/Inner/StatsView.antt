-- How the state of a view is represented in memory.
use Rattle.std.specs.Prelude.{Bool, true, false}
use Rattle.dv_views.specs.declared.state.ViewState.{ViewState}
use Rattle.dv_views.specs.declared.state.ViewState.TheVariants.{Live, Stale}
use Rattle.dv_catalog.specs.declared.stats.Stats as memory
use Rattle.dv_catalog.specs.Marks.{Stats}

abbrev pub stats_seen : memory.Stats → Stats
stats_seen s = record { is_live = s.is_live; rows = s.rows; ticks = s.ticks }

abbrev pub live_shown : ViewState → Bool
live_shown Live = true
live_shown Stale = false
