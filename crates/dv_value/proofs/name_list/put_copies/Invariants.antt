use Rattle.std.proofs.Common.{◌≡◌, ◌++◌, take}
use Rattle.dv_value.proofs.name_list.put_copies.Given as goal

abbrev pub invariant-loop-name : goal.invariant-loop-name
invariant-loop-name l = l.copies.items ≡ l.initial.copies.items ++ take l.name-index l.names
