-- The changes that the views so far have passed on are dropped, and nothing else.
use Rattle.std.proofs.Common.{◌≡◌, drop, length, map}
use Rattle.dv_views.specs.Inner.Handing.{AreSilentBut, silenced}
use Rattle.dv_views.proofs.handing.fall_silent.Given as goal

abbrev pub invariant-views : goal.invariant-views
invariant-views l = record {
  others : AreSilentBut (drop l.place-index l.places) 0 l.views.entries;
  same : map silenced l.views.entries ≡ map silenced l.fn.views.entries;
  count : length l.views.entries ≡ length l.fn.views.entries;
}
