-- The edits that aren't left are placed in the map.
use Rattle.std.proofs.Common.{map, vec_len}
use Rattle.std.specs.BTreeMap.{IsOrdered}
use Rattle.dv_update.specs.PathOrder.{path_order}
use Rattle.dv_update.specs.View.{edit, entry}
use Rattle.dv_update.proofs.Placed.{IsPlaced}
use Rattle.dv_update.proofs.order.by_path.Given as goal

abbrev pub invariant-edits : goal.invariant-edits
invariant-edits l = IsPlaced (map edit l.initial.edits.items) (map edit l.edits.items) (map entry l.places.entries) × IsOrdered path_order l.places

abbrev pub decreases-edits : goal.decreases-edits
decreases-edits l = vec_len l.edits
