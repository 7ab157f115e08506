-- The values so far, and those of the rows that are left, are all values.
use Rattle.std.proofs.Common.{◌≡◌, ◌++◌, map}
use Rattle.dv_value.specs.View.{tree}
use Rattle.dv_change.specs.Changes.{forget}
use Rattle.dv_gather.specs.Joining.{as_value}
use Rattle.dv_join.proofs.joining.values_of.Given as goal

abbrev pub invariant-others : goal.invariant-others
invariant-others l = map tree l.values.items ++ map as_value (forget l.row-iterator) ≡ map as_value (forget l.fn.rows)
