-- The lists so far are filled, and the others are still empty.
use Rattle.std.proofs.Common.{List, [], drop, length, take}
use Rattle.std.specs.List.{AllByRecursion}
use Rattle.dv_pipe.specs.Sources.{lists_of}
use Rattle.dv_pipe.specs.declared.stage.Stage.{Stage}
use Rattle.dv_views.specs.Inner.Ground.{IsPlacedUnder, outs_below}
use Rattle.dv_views.specs.Inner.Holding.{HasMade}
use Rattle.dv_views.specs.Inner.Keeping.{IsSoundLive, kept_seen}
use Rattle.dv_views.specs.Inner.Made.{IsNoStale}
use Rattle.dv_views.specs.Inner.Older.{views_before}
use Rattle.dv_views.specs.Inner.Operating.{empty_lists}
use Rattle.dv_views.specs.Inner.Views.{AreInOrder, view_under}
use Rattle.dv_views.proofs.Building.{first_lists}
use Rattle.dv_views.proofs.making.filled_lists.Given as goal

abbrev pub invariant-lists : goal.invariant-lists
invariant-lists l =
    let older = views_before l.ground.place l.ground.views.now.entries in
    let lists = lists_of l.ground.sources.now in
    record {
      sound : IsSoundLive l.live;
      ordered : AllByRecursion (λ name. AreInOrder (lists name)) (drop l.place l.lookups);
      live : AllByRecursion (λ name. IsNoStale (view_under name older)) (drop l.place l.lookups);
      made : (stages : List Stage) → HasMade stages (kept_seen l.fn.rows) (record { left = []; named = empty_lists (length l.lookups) }) → HasMade stages (kept_seen l.live) (record { left = []; named = first_lists (outs_below older lists) l.lookups l.place });
      placed : AllByRecursion (IsPlacedUnder older lists) (take l.place l.lookups);
    }
