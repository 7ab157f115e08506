-- The names so far, and after them those of the stages that are left.
use Rattle.std.proofs.Common.{◌≡◌, ◌++◌, drop}
use Rattle.dv_views.specs.Forms.{names_read}
use Rattle.dv_views.specs.Placed.{lookups_of}
use Rattle.dv_views.proofs.lookups.names_read.Given as goal

abbrev pub invariant-stages : goal.invariant-stages
invariant-stages l = l.names.items ++ lookups_of (drop l.stage-index l.stage-items) l.source ≡ names_read l.fn.pipeline l.source
