-- Rows at positions, and changes of them.
use Rattle.std.specs.Prelude.{List, [], ◌∷◌, Option, fold}
use Rattle.std.specs.BTreeMap.{insert_entry, is_at}
use Rattle.std.specs.Map.{lookup, remove_entry, values_of}
use Rattle.dv_value.specs.Tree.{Field}
use Rattle.dv_change.specs.declared.change.Change.{Change}
use Rattle.dv_change.specs.declared.change.Change.TheVariants.{Put, Gone}
use Rattle.dv_change.specs.Positions.{PosTree, pos_order}

-- rows, each at a position of its own, in ascending order
abbrev pub Positioned : Type 0
Positioned = List (PosTree × List Field)

-- the rows after a change: `Put` inserts the row at its position or replaces the one there; `Gone` removes the one there
abbrev pub with_change : Positioned → Change → Positioned
with_change rows (Put pos row) = insert_entry pos_order rows pos row
with_change rows (Gone pos) = remove_entry (is_at (pos_order pos)) rows

-- the rows after these changes, one after the other
abbrev pub with_changes : Positioned → List Change → Positioned
with_changes rows changes = fold with_change rows changes

-- the rows without their positions
abbrev pub forget : Positioned → List (List Field)
forget rows = values_of rows

-- the row at the position, if any
abbrev pub at : PosTree → Positioned → Option (List Field)
at pos rows = lookup (is_at (pos_order pos)) rows

-- rows sorted by position; of several at one position the first is kept
abbrev pub in_row_order : Positioned → Positioned
in_row_order [] = []
in_row_order (e ∷ es) = insert_entry pos_order (in_row_order es) e.0 e.1
