-- The edits so far are those of the operators that were read.
use Rattle.std.proofs.Common.{◌≡◌, map}
use Rattle.dv_update.specs.Inner.Collected.{behind}
use Rattle.dv_update.specs.Parsing.{edits_in}
use Rattle.dv_update.specs.View.{edit}
use Rattle.dv_update.proofs.parsing.edits_in.Given as goal

abbrev pub invariant-operators : goal.invariant-operators
invariant-operators l = edits_in l.document ≡ behind (map edit l.edits.items) (edits_in l.name-iterator)
