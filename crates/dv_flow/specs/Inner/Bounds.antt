-- What the bounds on a stage's changes count.
use Rattle.std.specs.Prelude.{ℕ, ◌+◌, List, length, Option, None, Some}
use Rattle.dv_value.specs.Tree.{Field}
use Rattle.dv_change.specs.declared.change.Change.{Change}
use Rattle.dv_change.specs.Changes.{Positioned, at}
use Rattle.dv_change.specs.Inner.Changes.{position_changed, row_in}
use Rattle.dv_row.specs.declared.unwind.Unwind.{Unwind}
use Rattle.dv_row.specs.Unwinding.{unwound}

-- how many rows unwinding returns for a row, if there is one
abbrev pub rows_made : Unwind → Option (List Field) → ℕ
rows_made u None = 0
rows_made u (Some d) = length (unwound u d)

-- how many it returns for the row that is at the position of a change and for the row that is there after it, together
abbrev pub rows_unwound : Unwind → Positioned → Change → ℕ
rows_unwound u rows change = rows_made u (at (position_changed change) rows) + rows_made u (row_in change)
