-- How what a find searches is represented in memory.
use Rattle.std.specs.Prelude.{List}
use Rattle.dv_value.specs.Tree.{Field}
use Rattle.dv_catalog.specs.declared.standing.Searched.{Searched}
use Rattle.dv_catalog.specs.declared.standing.Searched.TheVariants.{Collection, ById, Rows}

abbrev pub searched : Searched → List (List Field)
searched (Collection c) = c.now.documents
searched (ById rows) = rows
searched (Rows others) = others
