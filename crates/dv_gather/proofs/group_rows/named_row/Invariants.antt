-- What is left is still to be put after the fields.
use Rattle.std.proofs.Common.{◌≡◌, map, drop}
use Rattle.std.specs.Vec.Iter.{into_iter_items}
use Rattle.dv_value.specs.View.{tree}
use Rattle.dv_gather.specs.Inner.GroupView.{accumulation}
use Rattle.dv_gather.specs.Inner.GroupStates.{with_named, row_of_values}
use Rattle.dv_gather.proofs.group_rows.named_row.Given as goal

abbrev pub invariant-fields : goal.invariant-fields
invariant-fields l = with_named (map accumulation (drop l.field-index l.fields)) (map tree (into_iter_items l.values)) l.row ≡ row_of_values (map accumulation l.fields) (map tree l.fn.values.items)
