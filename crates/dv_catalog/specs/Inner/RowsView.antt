-- How rows are represented in memory.
use Rattle.std.specs.Prelude.{List, []}
use Rattle.dv_value.specs.Tree.{Field}
use Rattle.dv_catalog.specs.declared.rows.RowsOrigin.{RowsOrigin}
use Rattle.dv_catalog.specs.declared.rows.RowsOrigin.TheVariants.{Nothing, Collection, View, Between}

abbrev pub rows : RowsOrigin → List (List Field)
rows Nothing = []
rows (Collection documents) = documents
rows (View others) = others
rows (Between others) = others
