-- If `Steps` holds of the edits that are left, it holds of all edits.
use Rattle.std.proofs.Common.{length, map}
use Rattle.dv_update.specs.View.{edit}
use Rattle.dv_update.specs.Inner.Collected.{Steps}
use Rattle.dv_update.proofs.order.are_apart.Given as goal

abbrev pub invariant-edits : goal.invariant-edits
invariant-edits l = Steps (map edit l.left) → Steps (map edit l.edits)

abbrev pub decreases-edits : goal.decreases-edits
decreases-edits l = length l.left
