-- The places so far are already lowered for the removal of the other place.
use Rattle.std.proofs.Common.{◌≡◌, ◌++◌, map, take, drop}
use Rattle.dv_views.specs.Inner.Readers.{lowered}
use Rattle.dv_views.proofs.readers.take_out_of.Given as goal

abbrev pub invariant-places : goal.invariant-places
invariant-places l = take l.other-index l.other-items ++ map (lowered l.place) (drop l.other-index l.other-items) ≡ map (lowered l.place) l.initial.other-items
