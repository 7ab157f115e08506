-- Rows, which stages read and return.
use Rattle.std.specs.Prelude.{List}
use Rattle.dv_value.specs.Tree.{Field}

-- a row is a document: a list of fields
abbrev pub Row : Type 0
Row = List Field
