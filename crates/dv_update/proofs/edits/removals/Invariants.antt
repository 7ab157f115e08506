-- The paths so far, and those of what is left, are those of all removals.
use Rattle.std.proofs.Common.{◌≡◌, ◌++◌, map, drop}
use Rattle.dv_update.specs.Removals.{removals}
use Rattle.dv_update.specs.View.{edit}
use Rattle.dv_update.proofs.edits.removals.Given as goal

abbrev pub invariant-edits : goal.invariant-edits
invariant-edits l = map (λ path. path.now) l.paths.items ++ removals (map edit (drop l.edit-index l.edits)) ≡ removals (map edit l.edits)
