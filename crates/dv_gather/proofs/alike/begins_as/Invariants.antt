-- If what is left of the document begins with the names left of the row, the document begins with those of the row.
use Rattle.dv_gather.specs.Inner.Alike.{BeginsAs}
use Rattle.dv_gather.proofs.alike.begins_as.Given as goal

abbrev pub invariant-names : goal.invariant-names
invariant-names l = BeginsAs l.fields l.name-iterator → BeginsAs l.document l.row
