-- The edits that are left are refused as all of them are; if they aren't refused, the `_id` is the same.
use Rattle.std.proofs.Common.{length, map}
use Rattle.dv_update.specs.Apply.{edited}
use Rattle.dv_update.specs.Inner.Collected.{Steps}
use Rattle.dv_update.specs.Inner.Filling.{IsUnfilled}
use Rattle.dv_update.specs.Removals.{other_edits}
use Rattle.dv_update.specs.View.{edit}
use Rattle.dv_update.proofs.filling.made_without_fills.Given as goal

abbrev pub invariant-edits : goal.invariant-edits
invariant-edits l = IsUnfilled l.with_id l.made (map edit l.left) (edited (other_edits (map edit l.edits)) l.initial.made) × Steps (map edit l.left)

abbrev pub decreases-edits : goal.decreases-edits
decreases-edits l = length l.left
