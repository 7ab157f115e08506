use Rattle.std.proofs.Common.{◌≡◌, ◌++◌, Some, map, take}
use Rattle.dv_value.specs.View.{tree}
use Rattle.dv_candidates.specs.View.{seen}
use Rattle.dv_candidates.proofs.listed.push_elements.Given as goal

abbrev pub invariant-loop-element : goal.invariant-loop-element
invariant-loop-element l = map seen l.leaves.items ≡ map seen l.initial.leaves.items ++ map Some (map tree (take l.element-index l.element-items))
