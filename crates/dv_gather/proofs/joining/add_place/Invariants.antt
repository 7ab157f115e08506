-- What is left of the keys decides.
use Rattle.std.proofs.Common.{◌≡◌, ◌||◌, ◌&&◌, ◌==◌, ℕ}
use Rattle.std.specs.List.{list_any}
use Rattle.std.specs.Ordering.{is_eq}
use Rattle.dv_order.specs.Key.{KeyTree, key_order}
use Rattle.dv_gather.specs.Inner.Places.{is_found, is_under}
use Rattle.dv_gather.proofs.joining.add_place.Given as goal

abbrev pub invariant-keys : goal.invariant-keys
invariant-keys l =
    (k : KeyTree) (i : ℕ) → is_under l.places k i || ((l.place == i) && list_any (λ m. is_eq (key_order k m)) l.key-iterator) ≡ is_under l.initial.places k i || ((l.place == i) && is_found l.lookup.foreign k l.document)
