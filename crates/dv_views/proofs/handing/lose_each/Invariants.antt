-- The views before the next place have taken in a change, whatever it is.
use Rattle.std.proofs.Common.{List, drop}
use Rattle.dv_change.specs.declared.taking.Taken as taking
use Rattle.dv_views.proofs.Walked.{HaveWalked}
use Rattle.dv_views.proofs.handing.lose_each.Given as goal

abbrev pub invariant-views : goal.invariant-views
invariant-views l = (all : List taking.Taken) → HaveWalked l.namespace all (drop l.place-index l.places) l.fn.views.entries l.views.entries
