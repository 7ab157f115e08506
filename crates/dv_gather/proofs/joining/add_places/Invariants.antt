use Rattle.std.proofs.Common.{◌≡◌, ◌||◌, ℕ, drop}
use Rattle.std.specs.BTreeSet.{contains}
use Rattle.std.specs.Ordering.{nat_cmp}
use Rattle.dv_gather.specs.Inner.Places.{is_place}
use Rattle.dv_gather.proofs.joining.add_places.Given as goal

abbrev pub invariant-places : goal.invariant-places
invariant-places l = (i : ℕ) → contains nat_cmp l.found i || is_place (drop l.place-index l.places) i ≡ contains nat_cmp l.initial.found i || is_place l.places i
