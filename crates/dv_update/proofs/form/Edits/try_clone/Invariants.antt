use Rattle.std.proofs.Common.{◌≡◌, map, take}
use Rattle.dv_update.specs.View.{edit}
use Rattle.dv_update.proofs.form.Edits.try_clone.Given as goal

abbrev pub invariant-loop-edit : goal.invariant-loop-edit
invariant-loop-edit l = map edit l.edits.items ≡ map edit (take l.edit-index l.edit-items)
