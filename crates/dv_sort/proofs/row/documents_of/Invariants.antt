use Rattle.std.proofs.Common.{◌≡◌}
use Rattle.dv_sort.specs.Keys.{documents}
use Rattle.dv_sort.proofs.row.documents_of.Given as goal

abbrev pub invariant-loop-document : goal.invariant-loop-document
invariant-loop-document l = l.found.items ≡ documents l.yielded
