-- The bytes so far and those that are left are together all bytes.
use Rattle.std.proofs.Common.{◌≡◌, ◌+◌, drop}
use Rattle.dv_update.specs.Inner.StandIn.{names_length}
use Rattle.dv_update.proofs.pieces.names_size.Given as goal

abbrev pub invariant-names : goal.invariant-names
invariant-names l = l.size + names_length (drop l.name-index l.names) ≡ names_length l.names
