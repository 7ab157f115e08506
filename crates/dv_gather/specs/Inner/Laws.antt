-- Definitions for the laws about groups.
use Rattle.std.specs.Prelude.{List, filter}
use Rattle.std.specs.Ordering.{is_eq}
use Rattle.dv_value.specs.Tree.{Tree}
use Rattle.dv_order.specs.Order.{order}
use Rattle.dv_row.specs.Expressions.{Expression}
use Rattle.dv_row.specs.Row.{Row}
use Rattle.dv_gather.specs.declared.accumulator.Accumulator.TheVariants.{Push}
use Rattle.dv_gather.specs.Grouping.{Grouping, accumulated, key_in, values_over}

-- the rows whose key compares equal to this one
abbrev pub rows_with_key : Grouping → Tree → List Row → List Row
rows_with_key g k rows = filter (λ row. is_eq (order k (key_in g row))) rows

-- what `$push` returns for rows
abbrev pub array_pushed : Expression → List Row → Tree
array_pushed e rows = accumulated Push (values_over e rows)
