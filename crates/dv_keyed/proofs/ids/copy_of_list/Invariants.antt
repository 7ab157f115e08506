use Rattle.std.proofs.Common.{◌≡◌, take}
use Rattle.dv_keyed.proofs.ids.copy_of_list.Given as goal

abbrev pub invariant-ids : goal.invariant-ids
invariant-ids l = l.copy.items ≡ take l.id-index l.ids
