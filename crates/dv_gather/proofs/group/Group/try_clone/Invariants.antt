use Rattle.std.proofs.Common.{◌≡◌, take}
use Rattle.dv_gather.proofs.group.Group.try_clone.Given as goal

abbrev pub invariant-fields : goal.invariant-fields
invariant-fields l = l.fields.items ≡ take l.field-index l.field-items
