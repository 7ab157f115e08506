use Rattle.std.proofs.Common.{◌≡◌, ℕ, take}
use Rattle.dv_order.specs.Key.{KeyTree}
use Rattle.dv_gather.specs.View.{referred}
use Rattle.dv_gather.specs.Inner.Places.{is_under, is_found, item_passes_at}
use Rattle.dv_gather.proofs.joining.places_of.Given as goal

abbrev pub invariant-documents : goal.invariant-documents
invariant-documents l = (k : KeyTree) (i : ℕ) → is_under l.places k i ≡ item_passes_at (is_found l.lookup.foreign k) (referred (take l.place l.documents)) i
