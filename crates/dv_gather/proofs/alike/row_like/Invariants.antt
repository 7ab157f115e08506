-- The values so far, before those left of the row.
use Rattle.std.proofs.Common.{◌≡◌, ◌++◌, map}
use Rattle.dv_value.specs.View.{tree}
use Rattle.dv_gather.specs.Inner.Alike.{values_of}
use Rattle.dv_gather.proofs.alike.row_like.Given as goal

abbrev pub invariant-values : goal.invariant-values
invariant-values l = record {
  copied : map tree l.values.items ++ values_of l.own-iterator ≡ values_of l.row;
  last : l.value ≡ l.fn.value;
}
