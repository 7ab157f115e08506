-- The list is followed by the values so far.
use Rattle.std.proofs.Common.{◌≡◌, ◌++◌, map, take}
use Rattle.dv_value.specs.View.{tree}
use Rattle.dv_update.proofs.edit.joined.Given as goal

abbrev pub invariant-values : goal.invariant-values
invariant-values l = map tree l.joined.items ≡ l.fn.list ++ map tree (take l.value-index l.value-items)
