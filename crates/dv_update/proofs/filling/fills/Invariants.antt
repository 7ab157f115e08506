-- The fills so far, and those of what is left, are those of all edits.
use Rattle.std.proofs.Common.{◌≡◌, ◌++◌, map, drop}
use Rattle.dv_update.specs.Inner.Filling.{fills}
use Rattle.dv_update.specs.Inner.FillView.{fill}
use Rattle.dv_update.specs.View.{edit}
use Rattle.dv_update.proofs.filling.fills.Given as goal

abbrev pub invariant-edits : goal.invariant-edits
invariant-edits l = map fill l.fills.items ++ fills l.document (map edit (drop l.edit-index l.edits)) ≡ fills l.document (map edit l.edits)
