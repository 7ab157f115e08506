-- The edits so far come after those that were there.
use Rattle.std.proofs.Common.{◌≡◌, map}
use Rattle.dv_update.specs.Inner.Collected.{behind}
use Rattle.dv_update.specs.Parsing.{edits_by}
use Rattle.dv_update.specs.View.{edit}
use Rattle.dv_update.proofs.parsing.add_each.Given as goal

abbrev pub invariant-paths : goal.invariant-paths
invariant-paths l = behind (map edit l.fn.edits.items) (edits_by l.operator l.paths) ≡ behind (map edit l.edits.items) (edits_by l.operator l.name-iterator)
