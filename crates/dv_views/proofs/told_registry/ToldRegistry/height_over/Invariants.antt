-- The highest view so far and the views that are left are together as high as all views.
use Rattle.std.proofs.Common.{◌≡◌}
use Rattle.dv_views.proofs.Heights.{highest_read}
use Rattle.dv_views.proofs.told_registry.ToldRegistry.height_over.Given as goal

abbrev pub invariant-views : goal.invariant-views
invariant-views l = highest_read l.pipeline l.source l.highest l.name-iterator ≡ highest_read l.pipeline l.source 0 l.initial.name-iterator
