use Rattle.std.proofs.Common.{◌≡◌, ◌&&◌, not}
use Rattle.std.specs.Ordering.{is_eq}
use Rattle.dv_order.specs.Key.{KeyTree, key_order}
use Rattle.dv_keyed.specs.Inner.Keys.{has_key}
use Rattle.dv_keyed.specs.Inner.Pairs.{has_pair}
use Rattle.dv_keyed.proofs.pairs.Pairs.take_out.Given as goal

-- the keys that are left are still to be removed
abbrev pub invariant-loop-key : goal.invariant-loop-key
invariant-loop-key l =
    (k i : KeyTree) → has_pair k i l.self && not (has_key k l.key-iterator && is_eq (key_order i l.id)) ≡ has_pair k i l.initial.self && not (has_key k l.keys && is_eq (key_order i l.id))
