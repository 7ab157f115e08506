-- Changes with the rows that were at their positions.
use Rattle.std.specs.Prelude.{◌≡◌, ◌+◌, Bool, is_none, not, if◌then◌else◌, ℕ, zero, suc, List, [], ◌∷◌, ◌++◌, Option, None, Some, length, map}
use Rattle.std.specs.List.{AllByRecursion, filter}
use Rattle.dv_value.specs.Tree.{Field}
use Rattle.dv_change.specs.declared.change.Change.{Change}
use Rattle.dv_change.specs.declared.change.Change.TheVariants.{Put, Gone}
use Rattle.dv_change.specs.declared.input.Input.{Input}
use Rattle.dv_change.specs.declared.input.Input.TheVariants.{Left, Named}
use Rattle.dv_change.specs.declared.taking.Taken.{Taken}
use Rattle.dv_change.specs.Changes.{Positioned, at, with_change}
use Rattle.dv_change.specs.Difference.{stands_as}
use Rattle.dv_change.specs.Inner.Changes.{IsExactChange, IsPositioned, position_changed, row_in}
use Rattle.dv_change.specs.Inner.DiffLaws.{row_differs, went}
use Rattle.dv_change.specs.Inputs.{HasInput, left_after, others_after}
use Rattle.dv_change.specs.Positions.{PosTree}
use Rattle.dv_change.specs.Raised.{raised}
use Rattle.dv_change.specs.Work.{owed_by}

-- a change of rows, with the row that was at its position
abbrev pub with_old : Positioned → Change → Taken
with_old rows change = record { pos = position_changed change; old = at (position_changed change) rows; new = row_in change }

-- changes of rows, one after the other, each with the row that was at its position
abbrev pub told_along : Positioned → List Change → List Taken
told_along rows [] = []
told_along rows (change ∷ changes) = with_old rows change ∷ told_along (with_change rows change) changes

-- the change without the row that was at its position
abbrev pub change_to : PosTree → Option (List Field) → Change
change_to pos None = Gone pos
change_to pos (Some row) = Put pos row

abbrev pub change_told : Taken → Change
change_told taken = change_to taken.pos taken.new

abbrev pub changes_told : List Taken → List Change
changes_told all = map change_told all

-- the rows of one list that are removed, and those of another one that are put, each with what was at its position
abbrev pub gone_told : PosTree × List Field → Taken
gone_told e = record { pos = e.0; old = Some e.1; new = None }

abbrev pub put_told : Positioned → PosTree × List Field → Taken
put_told old e = record { pos = e.0; old = at e.0 old; new = Some e.1 }

abbrev pub gones_told : Positioned → Positioned → List Taken
gones_told old new = map gone_told (filter (went new) old)

abbrev pub puts_told : Positioned → Positioned → List Taken
puts_told old new = map (put_told old) (filter (row_differs old) new)

abbrev pub diff_told : Positioned → Positioned → List Taken
diff_told old new = gones_told old new ++ puts_told old new

-- the same for one row: its removal, if its position has no new row; or that it is put, if the old row isn't the same
abbrev pub gone_if_missing : PosTree → List Field → Positioned → List Taken
gone_if_missing pos row new = if is_none (at pos new) then gone_told (pos, row) ∷ [] else []

abbrev pub put_if_other : Positioned → PosTree → List Field → List Taken
put_if_other old pos row = if not (stands_as (at pos old) row) then put_told old (pos, row) ∷ [] else []

-- whether there was no row and there is none now, or the row is the same
abbrev pub is_kept : Option (List Field) → Option (List Field) → Bool
is_kept old None = is_none old
is_kept old (Some row) = stands_as old row

-- the list of an input
abbrev pub list_at : ℕ → List Positioned → Positioned
list_at i [] = []
list_at zero (rows ∷ others) = rows
list_at (suc i) (rows ∷ others) = list_at i others

abbrev pub input_rows : Input → List Positioned → Positioned → Positioned
input_rows Left others left = left
input_rows (Named i) others left = list_at i others

-- a change of an input, with what was at its position
pub record ComesTo (input : Input) (taken : Taken) (change : Change) (others : List Positioned) (left : Positioned) : Type 0 where
  pub there : HasInput input others
  pub told : taken ≡ with_old (input_rows input others left) change
  pub exact : IsExactChange change

-- whatever an operator held, it holds afterwards
abbrev pub StaysTaken : (List Positioned → Positioned → Type 0) → (List Positioned → Positioned → Type 0) → Type 0
StaysTaken holds holds_then = (others : List Positioned) (left : Positioned) → holds others left → holds_then others left

-- for an operator that holds lists and rows, and receives a change of an input
module _ (holds : List Positioned → Positioned → Type 0) (input : Input) (taken : Taken) where
  -- this is true of whatever it holds, and of the change
  abbrev pub WhateverIsHeld : (List Positioned → Positioned → Change → Type 0) → Type 0
  WhateverIsHeld P = (others : List Positioned) (left : Positioned) (change : Change) → holds others left → ComesTo input taken change others left → P others left change

  -- afterwards it holds the lists and the rows after the change
  abbrev pub TakesIn : (List Positioned → Positioned → Type 0) → Type 0
  TakesIn holds_then = WhateverIsHeld (λ others left change. holds_then (others_after input change others) (left_after input change left))

  -- it returns the changes of its result: with what was at their positions, or the changes alone
  abbrev pub ReturnsTaken : (List Positioned → Positioned → Positioned) → List Taken → List Taken → Type 0
  ReturnsTaken makes before now = WhateverIsHeld (λ others left change. now ≡ before ++ told_along (makes others left) (owed_by input change makes others left))

  abbrev pub ReturnsChanges : (List Positioned → Positioned → Positioned) → List Change → List Change → Type 0
  ReturnsChanges makes before now = WhateverIsHeld (λ others left change. now ≡ before ++ owed_by input change makes others left)

  -- its count rises by 1 for the change and 1 for each that it returns
  abbrev pub CountsChanges : (List Positioned → Positioned → Positioned) → ℕ → ℕ → Type 0
  CountsChanges makes before now = WhateverIsHeld (λ others left change. now ≡ raised before (1 + length (owed_by input change makes others left)))

  -- the same, if the given rows are its result
  abbrev pub ReturnsBeside : Positioned → (List Positioned → Positioned → Positioned) → List Taken → List Taken → Type 0
  ReturnsBeside made makes before now = WhateverIsHeld (λ others left change. made ≡ makes others left → now ≡ before ++ told_along (makes others left) (owed_by input change makes others left))

  abbrev pub CountsBeside : Positioned → (List Positioned → Positioned → Positioned) → ℕ → ℕ → Type 0
  CountsBeside made makes before now = WhateverIsHeld (λ others left change. made ≡ makes others left → now ≡ raised before (1 + length (owed_by input change makes others left)))

-- if there are no lists, all are positioned
pub no_lists : (others : List Positioned) → others ≡ [] → AllByRecursion (λ rows. IsPositioned rows) others
no_lists [] none = tt
no_lists (rows ∷ others) none = absurd cc
