use Rattle.std.proofs.Common.{◌≡◌, ◌++◌, map, take}
use Rattle.std.specs.List.{flat_map}
use Rattle.dv_value.specs.View.{tree}
use Rattle.dv_candidates.specs.Candidates.{entered}
use Rattle.dv_candidates.specs.View.{seen}
use Rattle.dv_candidates.proofs.listed.enter_each.Given as goal

abbrev pub invariant-loop-element : goal.invariant-loop-element
invariant-loop-element l =
    map seen l.next.items ≡ map seen l.initial.next.items ++ flat_map (entered l.component) (map tree (take l.element-index l.element-items))
