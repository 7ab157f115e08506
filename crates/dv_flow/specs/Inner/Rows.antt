-- A stage that computes its rows from each row separately: what it has taken in.
use Rattle.std.specs.Prelude.{◌≡◌, ◌+◌, ◌++◌, ℕ, List, [], Option, Some, length, map}
use Rattle.dv_value.specs.Tree.{Field}
use Rattle.dv_change.specs.declared.input.Input.{Input}
use Rattle.dv_change.specs.declared.taking.Taken.{Taken}
use Rattle.dv_change.specs.Changes.{Positioned, at}
use Rattle.dv_change.specs.Inner.Changes.{IsPositioned, alone}
use Rattle.dv_change.specs.Inner.Fed.{AreKept}
use Rattle.dv_change.specs.Inner.Told.{WhateverIsHeld, diff_told, told_along}
use Rattle.dv_change.specs.Inner.Turning.{Turning}
use Rattle.dv_change.specs.Positions.{PosTree}
use Rattle.dv_change.specs.Raised.{raised}
use Rattle.dv_change.specs.Work.{owed_by}
use Rattle.dv_flow.specs.declared.by_row.RowOperator.{RowOperator}
use Rattle.dv_flow.specs.declared.by_row.RowsApart.{RowsApart}
use Rattle.dv_flow.specs.declared.row_turn.RowTurn.{RowTurn}

-- these two lists have the same difference as two others
abbrev pub AreApart : Positioned → Positioned → RowsApart → Type 0
AreApart old new rows = diff_told rows.old rows.new ≡ diff_told old new

module _ (makes : Positioned → Positioned) where
  -- P holds for all rows that have this row, or none, at the position, and for which it returns the kept rows, if any are kept
  abbrev WhateverIsKept : Option Positioned → PosTree → Option (List Field) → Type 0 → Type 0
  WhateverIsKept kept pos row P = (left : Positioned) → IsPositioned left → AreKept kept (makes left) → at pos left ≡ row → P

  -- these are the rows that it returned for that row
  abbrev pub WereMadeOf : Option Positioned → PosTree → Option (List Field) → Positioned → Type 0
  WereMadeOf kept pos row rows = WhateverIsKept kept pos row (rows ≡ makes (alone pos row))

  abbrev pub AreMadeOf : Positioned → PosTree → Option (List Field) → Positioned → Type 0
  AreMadeOf kept pos row rows = WereMadeOf (Some kept) pos row rows

  -- these lists have the same difference as its rows for the old row and its rows for the new one
  abbrev pub TellsApart : Option Positioned → Taken → RowsApart → Type 0
  TellsApart kept taken rows = WhateverIsKept kept taken.pos taken.old (AreApart (makes (alone taken.pos taken.old)) (makes (alone taken.pos taken.new)) rows)

module _ {S : Type 0} where
  -- the operator keeps no row: it may have taken in any rows at exact positions, in ascending order, and no list
  pub record HoldsRows (o : RowOperator S) (others : List Positioned) (left : Positioned) : Type 0 where
    pub positioned : IsPositioned left
    pub none : others ≡ []

  -- the rows that it returns; it reads no list
  abbrev pub row_makes : (S → Positioned → Positioned) → RowOperator S → List Positioned → Positioned → Positioned
  row_makes makes o others rows = makes o.stage rows

  module _ (makes : S → Positioned → Positioned) (o : RowOperator S) (input : Input) (taken : Taken) (kept : Option Positioned) where
    -- it returns the changes of its rows, if the kept rows, where any are kept, are those that it has returned
    abbrev pub ReturnsKept : List Taken → List Taken → Type 0
    ReturnsKept before now = WhateverIsHeld (HoldsRows o) input taken (λ others left change. AreKept kept (makes o.stage left) → now ≡ before ++ told_along (makes o.stage left) (owed_by input change (row_makes makes o) others left))

    -- its count rises by 1 for the change and 1 for each that it returns
    abbrev pub CountsKept : ℕ → ℕ → Type 0
    CountsKept before now = WhateverIsHeld (HoldsRows o) input taken (λ others left change. AreKept kept (makes o.stage left) → now ≡ raised before (1 + length (owed_by input change (row_makes makes o) others left)))

  -- the stage of a turn
  abbrev pub rows_stage : RowTurn S → S
  rows_stage t = t.keeping.operator.stage

  -- the rows that it has taken in
  abbrev pub rows_left : RowTurn S → Positioned
  rows_left t = t.keeping.rows.entries

  -- they are at exact positions, in ascending order
  abbrev pub IsSoundRows : RowTurn S → Type 0
  IsSoundRows t = HoldsRows t.keeping.operator (map (λ m. m.entries) t.keeping.lists.items) (rows_left t)

  -- it is a stage that returns these rows, and reads no list
  abbrev pub rows_turning : (S → Positioned → Positioned) → Turning (RowTurn S)
  rows_turning makes = record { form = λ t. record { makes = λ named rows. makes (rows_stage t) rows; named = [] }; left = rows_left; sound = IsSoundRows }
