use Rattle.std.proofs.Common.{◌≡◌, ◌++◌}
use Rattle.std.specs.List.Sorted.{IsStrictlySortedBy}
use Rattle.std.specs.Map.{keys_of}
use Rattle.dv_order.specs.Key.{key_order}
use Rattle.dv_keyed.proofs.pairs.copy_of.Given as goal

-- the copies so far, and what is left, are the entries
abbrev pub invariant-entries : goal.invariant-entries
invariant-entries l = (l.copy.entries ++ l.key-iterator ≡ l.fn.entries.entries) × IsStrictlySortedBy key_order (keys_of (l.copy.entries ++ l.key-iterator))
