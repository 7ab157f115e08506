use Rattle.dv_row.specs.Inner.AskedView.{asked}
use Rattle.dv_row.proofs.Taken.{IsSoFar}
use Rattle.dv_row.proofs.asked.members_of.Given as goal

abbrev pub invariant-members : goal.invariant-members
invariant-members l = IsSoFar l.document l.name-iterator (asked l.asked) l.paths.items
