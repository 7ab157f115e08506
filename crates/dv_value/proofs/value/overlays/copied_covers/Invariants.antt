use Rattle.std.proofs.Common.{◌≡◌, map, take}
use Rattle.dv_value.specs.View.{covering}
use Rattle.dv_value.proofs.value.overlays.copied_covers.Given as goal

abbrev pub invariant-loop-cover : goal.invariant-loop-cover
invariant-loop-cover l = map covering l.copies.items ≡ map covering (take l.cover-index l.cover-items)
