use Rattle.std.proofs.Common.{◌≡◌, ◌++◌, map}
use Rattle.dv_value.specs.View.{tree}
use Rattle.dv_gather.specs.Joining.{as_value}
use Rattle.dv_gather.specs.View.{referred}
use Rattle.dv_gather.specs.Inner.Places.{items_at}
use Rattle.dv_gather.proofs.joining.documents_at.Given as goal

abbrev pub invariant-places : goal.invariant-places
invariant-places l = map tree l.list.items ++ map as_value (items_at l.place-iterator (referred l.documents)) ≡ map as_value (items_at l.places.keys (referred l.documents))
