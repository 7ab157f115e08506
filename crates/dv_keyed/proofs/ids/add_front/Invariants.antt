use Rattle.std.proofs.Common.{◌≡◌, ◌++◌, filter, map}
use Rattle.std.specs.Ordering.{is_lt}
use Rattle.dv_order.specs.Key.{key_order}
use Rattle.dv_keyed.proofs.ids.add_front.Given as goal

-- what is left is still to be added
abbrev pub invariant-ids : goal.invariant-ids
invariant-ids l = map (λ i. i.now) l.found.items ++ l.id-iterator ≡ map (λ i. i.now) l.initial.found.items ++ filter (λ i. is_lt (key_order i l.until)) l.ids.keys
