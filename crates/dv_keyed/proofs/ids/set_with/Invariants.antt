use Rattle.std.proofs.Common.{◌≡◌, take}
use Rattle.std.specs.BTreeSet.{contains}
use Rattle.dv_order.specs.Key.{KeyTree, key_order}
use Rattle.dv_keyed.specs.Inner.Keys.{has_key}
use Rattle.dv_keyed.proofs.ids.set_with.Given as goal

abbrev pub invariant-ids : goal.invariant-ids
invariant-ids l = (i : KeyTree) → contains key_order l.set i ≡ has_key i (take l.other-index l.ids)
