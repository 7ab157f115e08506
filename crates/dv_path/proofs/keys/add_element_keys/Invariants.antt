use Rattle.std.proofs.Common.{◌≡◌, ◌||◌, map, take}
use Rattle.std.specs.BTreeSet.{contains}
use Rattle.dv_value.specs.View.{tree}
use Rattle.dv_order.specs.Key.{KeyTree, key_order}
use Rattle.dv_path.specs.LeafKeys.{is_some_key}
use Rattle.dv_path.proofs.keys.add_element_keys.Given as goal

abbrev pub invariant-loop-element : goal.invariant-loop-element
invariant-loop-element l =
    (k : KeyTree) → contains key_order l.keys k ≡ contains key_order l.initial.keys k || is_some_key k (map tree (take l.element-index l.element-items))
