use Rattle.std.proofs.Common.{Bor, ◌≡◌, ◌||◌, ◌&&◌, take}
use Rattle.std.specs.List.{list_any}
use Rattle.std.specs.Ordering.{is_eq}
use Rattle.dv_order.specs.Key.{KeyTree, key_order}
use Rattle.dv_keyed.specs.Inner.Pairs.{has_pair}
use Rattle.dv_keyed.proofs.pairs.Pairs.add_each.Given as goal

abbrev pub invariant-loop-key : goal.invariant-loop-key
invariant-loop-key l =
    (k i : KeyTree) → has_pair k i l.self ≡ has_pair k i l.initial.self || (list_any (λ (x : Bor KeyTree). is_eq (key_order k x.now)) (take l.key-index l.keys) && is_eq (key_order i l.id))
