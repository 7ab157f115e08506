use Rattle.std.proofs.Common.{◌≡◌, map, take}
use Rattle.std.specs.List.{list_any}
use Rattle.dv_order.specs.Key.{KeyTree}
use Rattle.dv_keyed.specs.Inner.Keys.{has_key}
use Rattle.dv_keyed.specs.Inner.Pairs.{has_pair}
use Rattle.dv_keyed.proofs.Ordered.{now}
use Rattle.dv_keyed.proofs.within.ids_at_each.Given as goal

abbrev pub invariant-keys : goal.invariant-keys
invariant-keys l =
    (i : KeyTree) → has_key i (map (λ l. l.now) l.ids.items) ≡ list_any (λ k. has_pair k i l.index) (map now (take l.key-index l.keys))
