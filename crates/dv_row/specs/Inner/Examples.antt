-- Worked examples of stages of one row, as they are written.
use Rattle.std.specs.Prelude.{List, [], ◌∷◌, Result, Ok, codes}
use Rattle.dv_value.specs.Tree.{Field, Tree}
use Rattle.dv_row.specs.declared.fault.PipelineFault.{PipelineFault}
use Rattle.dv_value.specs.Results.{◌>>=◌}
use Rattle.dv_value.specs.Short.{doc}
use Rattle.dv_row.specs.Projecting.{projected}
use Rattle.dv_row.specs.ProjectParsing.{project_in}
use Rattle.dv_row.specs.Row.{Row}

-- what a $project shows of a row
abbrev pub shown : List Field → Row → Result Row PipelineFault
shown members row = project_in (doc members) >>= λ p. Ok (projected p row)

-- fields with the names that the examples use
abbrev pub named_id : Tree → Field
named_id v = (codes "_id", v)

abbrev pub named_a : Tree → Field
named_a v = (codes "a", v)

abbrev pub named_b : Tree → Field
named_b v = (codes "b", v)

-- a row of three such fields
abbrev pub row_of : Tree → Tree → Tree → Row
row_of id a b = named_id id ∷ named_a a ∷ named_b b ∷ []
