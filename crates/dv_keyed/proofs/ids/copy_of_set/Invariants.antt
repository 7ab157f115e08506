use Rattle.std.proofs.Common.{◌≡◌, ◌++◌}
use Rattle.std.specs.List.Sorted.{IsStrictlySortedBy}
use Rattle.dv_order.specs.Key.{key_order}
use Rattle.dv_keyed.proofs.ids.copy_of_set.Given as goal

-- the copies so far, and what is left, are the set
abbrev pub invariant-ids : goal.invariant-ids
invariant-ids l = (l.copy.keys ++ l.id-iterator ≡ l.fn.ids.keys) × IsStrictlySortedBy key_order (l.copy.keys ++ l.id-iterator)
