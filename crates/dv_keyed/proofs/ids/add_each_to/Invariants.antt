use Rattle.std.proofs.Common.{◌≡◌, ◌++◌, map, take}
use Rattle.dv_keyed.proofs.ids.add_each_to.Given as goal

abbrev pub invariant-ids : goal.invariant-ids
invariant-ids l = map (λ i. i.now) l.found.items ≡ map (λ i. i.now) l.initial.found.items ++ take l.id-index l.ids
