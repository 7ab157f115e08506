-- The places so far are those of the parts so far.
use Rattle.std.proofs.Common.{◌≡◌, map, take}
use Rattle.dv_path.specs.Parts.{part}
use Rattle.dv_flow.specs.Placed as defined
use Rattle.dv_flow.proofs.sort.places_of.Given as goal

abbrev pub invariant-loop-part : goal.invariant-loop-part
invariant-loop-part l = l.places.items ≡ defined.sort_place (map part (take l.part-index l.parts)) l.row
