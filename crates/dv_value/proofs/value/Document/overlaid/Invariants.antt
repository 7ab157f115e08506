use Rattle.std.proofs.Common.{◌≡◌, take}
use Rattle.dv_value.proofs.value.Document.overlaid.Given as goal

abbrev pub invariant-fields : goal.invariant-fields
invariant-fields l = l.overlay ≡ take l.place l.self
