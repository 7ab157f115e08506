-- If the names left are those of the fields left, the names are those of the row.
use Rattle.std.proofs.Common.{◌≡◌, drop, map}
use Rattle.std.specs.Map.{keys_of}
use Rattle.dv_gather.specs.Inner.GroupStates.{row_names}
use Rattle.dv_gather.specs.Inner.GroupView.{accumulation}
use Rattle.dv_gather.proofs.group_rows.has_row_names.Given as goal

abbrev pub invariant-fields : goal.invariant-fields
invariant-fields l = keys_of l.names ≡ map (λ a. a.name) (map accumulation (drop l.field-index l.fields)) → keys_of l.document ≡ row_names (map accumulation l.fields)
