use Rattle.std.proofs.Common.{◌≡◌, map, take}
use Rattle.dv_value.specs.View.{tree}
use Rattle.dv_value.proofs.value.+value.Given as goal

abbrev pub invariant-copies::copies_of-loop-value : goal.invariant-copies::copies_of-loop-value
invariant-copies::copies_of-loop-value l = map tree l.copies.items ≡ map tree (take l.value-index l.value-items)
