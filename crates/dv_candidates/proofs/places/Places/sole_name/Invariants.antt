use Rattle.std.specs.Option.{option_map}
use Rattle.dv_candidates.proofs.Stands.{HaveNameBelow}
use Rattle.dv_candidates.proofs.places.Places.sole_name.Given as goal

abbrev pub invariant-places : goal.invariant-places
invariant-places l = HaveNameBelow l.components l.self l.place (option_map (λ n. n.now) l.sole)
