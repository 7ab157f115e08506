-- What a view keeps in memory, what it stands for, and what holds of it.
use Rattle.std.specs.Prelude.{⊤}
use Rattle.dv_views.specs.declared.view.Mark as marks
use Rattle.dv_views.specs.declared.view.Mark.TheVariants.{Live, Stale}
use Rattle.dv_views.specs.Inner.Keeping.{IsSoundLive, kept_seen}
use Rattle.dv_views.specs.Views.{ViewMark, live, stale}

abbrev pub mark_seen : marks.Mark → ViewMark
mark_seen (Live rows) = live (kept_seen rows)
mark_seen Stale = stale

abbrev pub IsSoundMark : marks.Mark → Type 0
IsSoundMark (Live rows) = IsSoundLive rows
IsSoundMark Stale = ⊤
