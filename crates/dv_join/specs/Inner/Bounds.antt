-- What the bounds on a look-up's changes count.
use Rattle.std.specs.Prelude.{◌≤◌, ℕ, Bool, ◌||◌, List, filter, length, Option}
use Rattle.dv_value.specs.Tree.{Field}
use Rattle.dv_gather.specs.declared.lookup.Lookup.{Lookup}
use Rattle.dv_gather.specs.Joining.{is_joined}
use Rattle.dv_change.specs.declared.change.Change.{Change}
use Rattle.dv_change.specs.Changes.{Positioned, at}
use Rattle.dv_change.specs.Inner.Bounds.{result_changes}
use Rattle.dv_change.specs.Inner.Changes.{IsExactChange, IsPositioned, position_changed, row_in}
use Rattle.dv_join.specs.Inner.Turning.{if_any}

-- whether a row shares a value with either of two documents, if there are any
abbrev pub is_touched : Lookup → Option (List Field) → Option (List Field) → List Field → Bool
is_touched l old new d = if_any (is_joined l.local l.foreign d) old || if_any (is_joined l.local l.foreign d) new

-- how many rows do
abbrev pub rows_touched : Lookup → Option (List Field) → Option (List Field) → Positioned → ℕ
rows_touched l old new rows = length (filter (λ e. is_touched l old new e.1) rows)

-- how many rows share a value with the document at the position of a change, or with the one that is there after it
abbrev pub rows_touched_by : Lookup → Positioned → Positioned → Change → ℕ
rows_touched_by l rows foreign change = rows_touched l (at (position_changed change) foreign) (row_in change) rows

-- a change of the rows leads to at most so many changes of the result for rows and documents
abbrev pub RowChangesAtMost : ℕ → (Positioned → Positioned → Positioned) → Type 0
RowChangesAtMost most makes = (rows foreign : Positioned) (change : Change) → IsPositioned rows → IsExactChange change → result_changes (λ some. makes some foreign) rows change ≤ most

-- a change of the documents leads to at most as many as a bound allows
abbrev pub DocumentChangesWithin : (Positioned → Positioned → Change → ℕ) → (Positioned → Positioned → Positioned) → Type 0
DocumentChangesWithin bound makes = (rows foreign : Positioned) (change : Change) → IsPositioned rows → IsPositioned foreign → IsExactChange change → result_changes (λ some. makes rows some) foreign change ≤ bound rows foreign change
