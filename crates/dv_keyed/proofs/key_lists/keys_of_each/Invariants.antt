use Rattle.std.proofs.Common.{◌≡◌, map, take}
use Rattle.dv_value.specs.View.{tree}
use Rattle.dv_order.specs.Key.{value}
use Rattle.dv_order.specs.Order.{canon}
use Rattle.dv_keyed.proofs.key_lists.keys_of_each.Given as goal

abbrev pub invariant-values : goal.invariant-values
invariant-values l = l.keys.items ≡ map (λ v. value (canon (tree v))) (take l.value-index l.values)
