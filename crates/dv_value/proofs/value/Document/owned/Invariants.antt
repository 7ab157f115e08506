use Rattle.std.proofs.Common.{◌≡◌, take}
use Rattle.dv_value.proofs.value.Document.owned.Given as goal

abbrev pub invariant-fields : goal.invariant-fields
invariant-fields l = l.fields ≡ take l.place l.self
