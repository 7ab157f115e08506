-- The views before the next place have taken the change in.
use Rattle.std.proofs.Common.{drop}
use Rattle.dv_views.proofs.Walked.{HaveWalked}
use Rattle.dv_views.proofs.handing.take_each.Given as goal

abbrev pub invariant-views : goal.invariant-views
invariant-views l = HaveWalked l.namespace l.all (drop l.place-index l.places) l.fn.views.entries l.views.entries
