use Rattle.std.proofs.Common.{◌≡◌, ◌++◌, map, take}
use Rattle.dv_value.specs.View.{tree}
use Rattle.dv_pipe.proofs.joined.push_each.Given as goal

abbrev pub invariant-elements : goal.invariant-elements
invariant-elements l = map tree l.values.items ≡ map tree l.initial.values.items ++ map tree (take l.element-index l.element-items)
