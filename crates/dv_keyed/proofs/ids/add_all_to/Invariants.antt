use Rattle.std.proofs.Common.{◌≡◌, ◌++◌, map}
use Rattle.dv_keyed.proofs.ids.add_all_to.Given as goal

-- what is left is still to be added
abbrev pub invariant-ids : goal.invariant-ids
invariant-ids l = map (λ i. i.now) l.found.items ++ l.id-iterator ≡ map (λ i. i.now) l.initial.found.items ++ l.ids.keys
