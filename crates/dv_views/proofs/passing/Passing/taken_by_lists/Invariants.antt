-- The changes of the lists so far were taken in.
use Rattle.std.proofs.Common.{take}
use Rattle.dv_views.specs.Inner.Keeping.{IsSoundLive, kept_seen}
use Rattle.dv_views.specs.Inner.Older.{told_found}
use Rattle.dv_views.specs.Inner.Turned.{Turns, coming_to_lists}
use Rattle.dv_views.proofs.passing.Passing.taken_by_lists.Given as goal

abbrev pub invariant-lists : goal.invariant-lists
invariant-lists l =
    let known = told_found l.self.namespace.now l.self.all.now l.self.place l.self.views.now.entries in
    record {
      sound : IsSoundLive l.live;
      turns : Turns (coming_to_lists 0 (take l.place l.lookups) known) (kept_seen l.fn.live) l.fn.told.items (kept_seen l.live) l.told.items;
    }
