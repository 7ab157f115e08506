use Rattle.std.proofs.Common.{◌≡◌, Some, fold, map, take}
use Rattle.dv_value.specs.View.{tree}
use Rattle.dv_order.specs.Key.{key_at}
use Rattle.dv_path.specs.SortKey.{earlier_with}
use Rattle.dv_path.proofs.sorting.earliest_with_elements.Given as goal

abbrev pub invariant-loop-element : goal.invariant-loop-element
invariant-loop-element l =
    l.first ≡ fold (earlier_with l.direction) l.fn.earliest (map (λ w. key_at (Some w)) (map tree (take l.element-index l.elements)))
