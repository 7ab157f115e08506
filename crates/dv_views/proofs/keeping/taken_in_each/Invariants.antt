-- The changes so far were taken in.
use Rattle.std.proofs.Common.{take, Some}
use Rattle.dv_views.specs.Inner.Keeping.{IsSoundLive, kept_seen}
use Rattle.dv_views.specs.Inner.Turned.{Turns, coming}
use Rattle.dv_views.proofs.keeping.taken_in_each.Given as goal

abbrev pub invariant-all : goal.invariant-all
invariant-all l = record {
  sound : IsSoundLive l.live;
  turns : Turns (coming l.input (Some (take l.taken-index l.all))) (kept_seen l.fn.rows) l.fn.told.items (kept_seen l.live) l.told.items;
}
