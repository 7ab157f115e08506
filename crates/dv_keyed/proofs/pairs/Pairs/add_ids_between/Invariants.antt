use Rattle.std.proofs.Common.{◌≡◌, ◌||◌, filter, map}
use Rattle.std.specs.BTreeMap.Range.{range_contains}
use Rattle.dv_order.specs.Key.{KeyTree, key_order}
use Rattle.dv_keyed.specs.Inner.Keys.{has_key}
use Rattle.dv_keyed.specs.Inner.Pairs.{has_id, pairs_of}
use Rattle.dv_keyed.proofs.pairs.Pairs.add_ids_between.Given as goal

-- the `_id`s under the keys that are left are still to be added
abbrev pub invariant-loop-found : goal.invariant-loop-found
invariant-loop-found l =
    (i : KeyTree) → has_key i (map (λ k. k.now) l.ids.items) || has_id i (pairs_of l.found-iterator) ≡ has_key i (map (λ k. k.now) l.initial.ids.items) || has_id i (filter (λ p. range_contains key_order l.fn.low l.fn.high p.0) l.self)
