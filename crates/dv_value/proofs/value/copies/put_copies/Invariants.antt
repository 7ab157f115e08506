use Rattle.std.proofs.Common.{◌≡◌, ◌++◌, map, take}
use Rattle.dv_value.specs.View.{tree}
use Rattle.dv_value.proofs.value.copies.put_copies.Given as goal

abbrev pub invariant-loop-value : goal.invariant-loop-value
invariant-loop-value l = map tree l.copies.items ≡ map tree l.initial.copies.items ++ map tree (take l.value-index l.values)
