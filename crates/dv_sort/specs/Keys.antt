-- Rows in memory, which store the keys by which they are sorted.
use Rattle.std.specs.Prelude.{List, map}
use Rattle.std.specs.declared.cmp.Ordering.{Ordering}
use Rattle.dv_value.specs.Tree.{Field}
use Rattle.dv_sort.specs.declared.row.Row.{Row}

-- the documents of rows
abbrev pub documents : List Row → List (List Field)
documents rows = map (λ row. row.document) rows
