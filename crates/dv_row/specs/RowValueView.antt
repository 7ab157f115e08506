-- What a computed value in memory represents.
use Rattle.dv_value.specs.Tree.{Tree}
use Rattle.dv_value.specs.View.{tree}
use Rattle.dv_row.specs.declared.row_value.RowValue.{RowValue}
use Rattle.dv_row.specs.declared.row_value.RowValue.TheVariants.{Lent, Made}

-- the value, whether it is borrowed from a row or was made
abbrev pub row_value : RowValue → Tree
row_value (Lent v) = tree v.now
row_value (Made v) = tree v
