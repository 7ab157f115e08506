-- The names so far are those of live views, or of none.
use Rattle.std.proofs.Common.{take}
use Rattle.std.specs.List.{AllByRecursion}
use Rattle.dv_views.specs.Inner.Ground.{IsLiveView}
use Rattle.dv_views.specs.Inner.Older.{views_before}
use Rattle.dv_views.specs.Inner.Views.{view_under}
use Rattle.dv_views.proofs.passing.Passing.are_live.Given as goal

abbrev pub invariant-names : goal.invariant-names
invariant-names l = AllByRecursion (λ name. IsLiveView (view_under name (views_before l.self.place l.self.views.now.entries))) (take l.name-index l.names)
