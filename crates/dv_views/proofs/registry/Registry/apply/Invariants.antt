-- The views have taken in the changes so far.
use Rattle.std.proofs.Common.{take}
use Rattle.dv_views.proofs.Kept.{HaveKept}
use Rattle.dv_views.proofs.registry.Registry.apply.Given as goal

abbrev pub invariant-changes : goal.invariant-changes
invariant-changes l = HaveKept l.namespace (take l.change-index l.changes) l.fn.self l.self
