-- The results for valid rows of what was read from valid values.
use Rattle.std.proofs.Common.{◌≡◌, Bool, Ok}
use Rattle.std.specs.Option.{IfSome}
use Rattle.dv_value.specs.Spelling.{IsValue}
use Rattle.dv_value.specs.Tree.{Tree}
use Rattle.dv_row.specs.declared.project.Project.{Project}
use Rattle.dv_row.specs.ExpressionParsing.{expression_in}
use Rattle.dv_row.specs.Expressions.{Expression, value_of}
use Rattle.dv_row.specs.Projecting.{projected}
use Rattle.dv_row.specs.ProjectParsing.{project_in}
use Rattle.dv_row.specs.Row.{Row}
use Rattle.dv_row.specs.Unwinding.{unwound}
use Rattle.dv_row.specs.declared.unwind.Unwind.{Unwind}
use Rattle.dv_row.specs.Inner.Valid.{IsValid, AreValid, IsSound, IsSoundProject, of-ok, expression_in-sound, value_of-valid}
use Rattle.dv_row.specs.Inner.ValidRows.{project_in-sound, projected-valid, unwound-valid}

pub value_valid : (plain : Bool) (v : Tree) (e : Expression) (row : Row) → IsValue v → expression_in plain v ≡ Ok e → IsValid row → IfSome (value_of e row) IsValue
value_valid plain v e row value is valid = value_of-valid e row (of-ok IsSound (expression_in plain v) e is (expression_in-sound plain v value)) valid

pub row_valid : (v : Tree) (p : Project) (row : Row) → IsValue v → project_in v ≡ Ok p → IsValid row → IsValid (projected p row)
row_valid v p row value is valid = projected-valid p row (of-ok IsSoundProject (project_in v) p is (project_in-sound v value)) valid

pub unwound_valid : (u : Unwind) (row : Row) → IsValid row → AreValid (unwound u row)
unwound_valid = unwound-valid
