-- The edits that are left have the same result for the document so far as all edits have for the first one, removals apart.
use Rattle.std.proofs.Common.{◌≡◌, map, drop}
use Rattle.dv_update.specs.Apply.{edited}
use Rattle.dv_update.specs.Removals.{other_edits}
use Rattle.dv_update.specs.View.{edit}
use Rattle.dv_update.proofs.edits.others_in_turn.Given as goal

abbrev pub invariant-edits : goal.invariant-edits
invariant-edits l = edited (other_edits (map edit l.edits)) l.initial.changed ≡ edited (other_edits (map edit (drop l.edit-index l.edits))) l.changed
