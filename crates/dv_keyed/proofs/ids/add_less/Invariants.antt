use Rattle.std.proofs.Common.{◌≡◌, ◌++◌, filter, map, take}
use Rattle.std.specs.Ordering.{is_lt}
use Rattle.dv_order.specs.Key.{key_order}
use Rattle.dv_keyed.proofs.ids.add_less.Given as goal

abbrev pub invariant-ids : goal.invariant-ids
invariant-ids l = map (λ i. i.now) l.found.items ≡ map (λ i. i.now) l.initial.found.items ++ filter (λ i. is_lt (key_order i l.until)) (take l.id-index l.ids)
