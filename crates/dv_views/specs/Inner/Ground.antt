-- The rows under names in memory, for a view that is created or recomputed: those of older views, and the documents of collections.
use Rattle.std.specs.Prelude.{◌≡◌, ℕ, List, [], Option, Some, None, ⊤}
use Rattle.std.specs.List.{AllByRecursion}
use Rattle.dv_change.specs.Changes.{Positioned}
use Rattle.dv_change.specs.Inner.Changes.{IsPositioned}
use Rattle.dv_pipe.specs.declared.stage.Stage.{Stage}
use Rattle.dv_pipe.specs.Sources.{Row, lists_of}
use Rattle.dv_pipe.specs.Stages.{Lists}
use Rattle.dv_views.specs.Forms.{names_read}
use Rattle.dv_views.specs.Placed.{ListPlaces, positioned}
use Rattle.dv_views.specs.Inner.Holding.{HasMade}
use Rattle.dv_views.specs.Inner.Older.{views_before}
use Rattle.dv_views.specs.Views.{ViewMark, View, live, stale, inputs_from}
use Rattle.dv_views.specs.Inner.Views.{Views, view_under}
use Rattle.dv_views.specs.declared.making.Ground.{Ground}

-- the views that are older than the one that is created or recomputed
abbrev pub views_below : Ground → Views
views_below g = views_before g.place g.views.now.entries

-- what collections hold
abbrev pub lists_below : Ground → Lists
lists_below g = lists_of g.sources.now

abbrev pub outs_of_mark : ViewMark → Positioned
outs_of_mark (live kept) = kept.rows
outs_of_mark stale = []

abbrev pub outs_of_view : Option View → List Row → Positioned
outs_of_view None documents = positioned documents
outs_of_view (Some v) documents = outs_of_mark v.mark

abbrev pub outs_below : Views → Lists → ListPlaces
outs_below older lists name = outs_of_view (view_under name older) (lists name)

abbrev pub IsLive : ViewMark → Type 0
IsLive (live kept) = ⊤
IsLive stale = ⊥

-- no view, or a live one
abbrev pub IsLiveView : Option View → Type 0
IsLiveView None = ⊤
IsLiveView (Some v) = IsLive v.mark

-- the name is that of no view, or of a live one, and its rows are at exact positions, in their order
abbrev pub IsPlacedUnder : Views → Lists → List ℕ → Type 0
IsPlacedUnder older lists name = IsLiveView (view_under name older) × IsPositioned (outs_below older lists name)

-- what is kept over older views and lists: a live mark has taken in their rows at positions, has counted nothing, and all views
-- that it reads are live
abbrev pub IsBuilt : List Stage → List ℕ → Views → Lists → ViewMark → Type 0
IsBuilt stages source older lists (live kept) =
    HasMade stages kept (inputs_from stages source (outs_below older lists)) × (kept.ticks ≡ 0) × AllByRecursion (λ name. IsLiveView (view_under name older)) (names_read stages source)
IsBuilt stages source older lists stale = ⊥
