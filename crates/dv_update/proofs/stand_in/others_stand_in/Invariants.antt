-- The edits that are left have the same result, for what the document stands in for, as all edits have for the first one.
use Rattle.std.proofs.Common.{◌≡◌, List, map, drop}
use Rattle.dv_value.specs.Tree.{Field}
use Rattle.dv_update.specs.Apply.{edited}
use Rattle.dv_update.specs.Removals.{other_edits}
use Rattle.dv_update.specs.Inner.Standing.{Stands}
use Rattle.dv_update.specs.View.{edit}
use Rattle.dv_update.proofs.stand_in.others_stand_in.Given as goal

abbrev pub invariant-edits : goal.invariant-edits
invariant-edits l = (made : List Field) × (edited (other_edits (map edit l.edits)) l.initial.standing.document ≡ edited (other_edits (map edit (drop l.edit-index l.edits))) made) × Stands made l.standing.document l.standing.last
