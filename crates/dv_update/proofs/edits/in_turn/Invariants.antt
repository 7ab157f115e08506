-- The edits that are left have the same result for the document so far as all edits have for the first one.
use Rattle.std.proofs.Common.{◌≡◌, map, drop}
use Rattle.dv_update.specs.Apply.{edited}
use Rattle.dv_update.specs.View.{edit}
use Rattle.dv_update.proofs.edits.in_turn.Given as goal

abbrev pub invariant-edits : goal.invariant-edits
invariant-edits l = edited (map edit l.edits) l.initial.changed ≡ edited (map edit (drop l.edit-index l.edits)) l.changed
