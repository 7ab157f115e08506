-- What is left of the keys decides.
use Rattle.std.proofs.Common.{◌≡◌, ◌||◌, ℕ}
use Rattle.std.specs.List.{list_any}
use Rattle.std.specs.BTreeSet.{contains}
use Rattle.std.specs.Ordering.{nat_cmp}
use Rattle.dv_gather.specs.Inner.Places.{is_under}
use Rattle.dv_gather.proofs.joining.places_under.Given as goal

abbrev pub invariant-keys : goal.invariant-keys
invariant-keys l = (i : ℕ) → contains nat_cmp l.found i || list_any (λ k. is_under l.places k i) l.key-iterator ≡ list_any (λ k. is_under l.places k i) l.keys.keys
