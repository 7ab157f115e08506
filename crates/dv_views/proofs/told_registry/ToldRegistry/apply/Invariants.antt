-- The views have taken in the changes so far, if these came with the documents that were there before.
use Rattle.std.proofs.Common.{take}
use Rattle.dv_change.specs.Inner.Told.{changes_told}
use Rattle.dv_views.proofs.Behind.{AreToldIn, HaveFollowed}
use Rattle.dv_views.proofs.told_registry.ToldRegistry.apply.Given as goal

abbrev pub invariant-changes : goal.invariant-changes
invariant-changes l = HaveFollowed l.namespace (changes_told (take l.taken-index l.all)) (AreToldIn (take l.taken-index l.all)) l.fn.self l.self
