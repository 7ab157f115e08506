-- The edits that were taken out of the map have no conflict.
use Rattle.std.proofs.Common.{map}
use Rattle.std.specs.BTreeMap.{btree_map_len}
use Rattle.dv_update.specs.View.{edit, entry}
use Rattle.dv_update.proofs.Placed.{IsTaken}
use Rattle.dv_update.proofs.order.listed.Given as goal

abbrev pub invariant-edits : goal.invariant-edits
invariant-edits l = IsTaken (map entry l.initial.places.entries) (map edit l.edits.items) (map entry l.places.entries)

abbrev pub decreases-edits : goal.decreases-edits
decreases-edits l = btree_map_len l.places
