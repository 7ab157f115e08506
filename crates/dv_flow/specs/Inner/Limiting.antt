-- The first rows, updated by changes: what such a stage has taken in, what it returns, and what is true of that.
use Rattle.std.specs.Prelude.{◌≡◌, ◌+◌, ◌<◌, ◌≤◌, ℕ, zero, suc, Bool, true, false, List, [], ◌∷◌, ◌++◌, length, map, Option, None, Some, slice_get, refl}
use Rattle.std.proofs.Common.{subst}
use Rattle.std.specs.List.{AllByRecursion, list_all}
use Rattle.std.specs.List.Sorted.{IsStrictlySortedBy}
use Rattle.std.specs.Map.{keys_of}
use Rattle.std.specs.Ordering.{is_gt}
use Rattle.std.specs.declared.cmp.Ordering.TheVariants.{Less}
use Rattle.dv_value.specs.Tree.{Field}
use Rattle.dv_change.specs.declared.change.Change.{Change}
use Rattle.dv_change.specs.Changes.{Positioned, at, with_change}
use Rattle.dv_change.specs.Difference.{diff}
use Rattle.dv_change.specs.Inner.Changes.{HaveOneLength, IsPositioned}
use Rattle.dv_change.specs.Inner.Ordered.{put}
use Rattle.dv_change.specs.Inner.Told.{change_to}
use Rattle.dv_change.specs.Positions.{IsExact, PosTree, pos_order}
use Rattle.dv_change.specs.Inner.Turning.{Turning}
use Rattle.dv_flow.specs.declared.limit.LimitOperator.{LimitOperator}
use Rattle.dv_flow.specs.declared.limit_turn.LimitTurn.{LimitTurn}
use Rattle.dv_flow.specs.Placed.{front_at}

-- ---- the operator

-- the rows that it has taken in: those that it shows, followed by the others
abbrev pub limit_rows : LimitOperator → Positioned
limit_rows o = o.front.entries ++ o.rest.entries

-- the first of them
abbrev pub limit_front : LimitOperator → Positioned
limit_front o = front_at o.count (limit_rows o)

-- the changes of the first rows when the row at a position becomes this one, or none
abbrev pub limit_changes : LimitOperator → PosTree → Option (List Field) → List Change
limit_changes o pos row = diff (limit_front o) (front_at o.count (with_change (limit_rows o) (change_to pos row)))

-- its rows are at exact positions, in ascending order, and those that it shows are the first of them
pub record IsCut (o : LimitOperator) : Type 0 where
  pub positioned : IsPositioned (limit_rows o)
  pub front : o.front.entries ≡ front_at o.count (limit_rows o)

-- it has taken in these rows, and no list
pub record HoldsLimit (o : LimitOperator) (others : List Positioned) (left : Positioned) : Type 0 where
  pub sound : IsCut o
  pub rows : limit_rows o ≡ left
  pub none : others ≡ []

pub positioned_held : (o : LimitOperator) (others : List Positioned) (left : Positioned) → HoldsLimit o others left → IsPositioned left
positioned_held o others left held = subst (λ (rows : Positioned). IsPositioned rows) held.rows held.sound.positioned

-- the same as `IsCut`, except that it may show one row too many
pub record IsOverfull (o : LimitOperator) : Type 0 where
  pub positioned : IsPositioned (limit_rows o)
  pub most : length o.front.entries ≤ o.count + 1
  pub least : 0 < length o.rest.entries → o.count ≤ length o.front.entries

-- the same, except that it shows too few rows: one too few if there are others
pub record IsUnderfull (o : LimitOperator) : Type 0 where
  pub positioned : IsPositioned (limit_rows o)
  pub most : length o.front.entries < o.count
  pub least : 0 < length o.rest.entries → length o.front.entries + 1 ≡ o.count

-- whether a position is after those of all rows
abbrev pub is_past : PosTree → Positioned → Bool
is_past pos rows = list_all (λ q. is_gt (pos_order pos q)) (keys_of rows)

-- a row at the position would not be one of the first rows: as many as may be shown are shown, and the position is after them
pub record IsBehind (o : LimitOperator) (pos : PosTree) : Type 0 where
  pub full : o.count ≤ length o.front.entries
  pub past : is_past pos o.front.entries ≡ true

-- it would be one of them
abbrev pub IsWithinLimit : LimitOperator → PosTree → Type 0
IsWithinLimit o pos = o.count ≤ length o.front.entries → is_past pos o.front.entries ≡ false

-- the position of the last of the first n rows, if there are so many
abbrev pub last_place : ℕ → Positioned → Option PosTree
last_place zero rows = None
last_place (suc n) rows = slice_get (keys_of rows) n

-- the position of the first row after them
abbrev pub next_place : ℕ → Positioned → Option PosTree
next_place n rows = slice_get (keys_of rows) n

-- the other position at which the first rows may change: inserting a row may push the last of them out, and removing a row may let
-- the next one in
abbrev pub edge_of : ℕ → Option (List Field) → Positioned → Option PosTree
edge_of n (Some row) rows = last_place n rows
edge_of n None rows = next_place n rows

-- the rows with one more, if there is one
abbrev pub with_limited_row : PosTree → Option (List Field) → Positioned → Positioned
with_limited_row pos None rows = rows
with_limited_row pos (Some row) rows = put pos row rows

-- the rows at one or two positions
abbrev pub at_either : PosTree → Option PosTree → Positioned → Positioned
at_either pos None rows = with_limited_row pos (at pos rows) []
at_either pos (Some edge) rows = with_limited_row edge (at edge rows) (with_limited_row pos (at pos rows) [])

-- ---- the turn

-- how many rows it shows
abbrev pub limit_count : LimitTurn → ℕ
limit_count t = t.keeping.operator.count

-- the rows that it has taken in
abbrev pub limit_left : LimitTurn → Positioned
limit_left t = t.keeping.rows.entries

-- the first of the rows
abbrev pub limit_makes : LimitTurn → List Positioned → Positioned → Positioned
limit_makes t named rows = front_at (limit_count t) rows

-- its operator has taken in these rows
abbrev pub IsSoundLimit : LimitTurn → Type 0
IsSoundLimit t = IsCut t.keeping.operator × HoldsLimit t.keeping.operator (map (λ m. m.entries) t.keeping.lists.items) (limit_left t)

-- it is the stage of the first rows, which reads no list
abbrev pub limit_turning : Turning LimitTurn
limit_turning = record { form = λ t. record { makes = limit_makes t; named = [] }; left = limit_left; sound = IsSoundLimit }

pub limit_positioned : (t : LimitTurn) → IsSoundLimit t → IsPositioned (limit_left t)
limit_positioned t sound = positioned_held t.keeping.operator (map (λ m. m.entries) t.keeping.lists.items) (limit_left t) sound.1

-- ---- the first rows

all-front : (P : PosTree → Type 0) (n : ℕ) (rows : Positioned) → AllByRecursion P (keys_of rows) → AllByRecursion P (keys_of (front_at n rows))
all-front P zero rows all = tt
all-front P (suc n) [] all = tt
all-front P (suc n) (e ∷ rows) all = (all.0, all-front P n rows all.1)

sorted-front : (n : ℕ) (rows : Positioned) → IsStrictlySortedBy pos_order (keys_of rows) → IsStrictlySortedBy pos_order (keys_of (front_at n rows))
unfolding IsStrictlySortedBy
sorted-front zero rows s = tt
sorted-front (suc n) [] s = tt
sorted-front (suc n) (e ∷ rows) s = (all-front (λ y. pos_order e.0 y ≡ Less) n rows s.0, sorted-front n rows s.1)

pub limit_ordered : (n : ℕ) (rows : Positioned) → IsPositioned rows → IsPositioned (front_at n rows)
limit_ordered n rows are = record { ascending = sorted-front n rows are.ascending; exact = all-front IsExact n rows are.exact }

pub limit_even : (n : ℕ) (rows : Positioned) → HaveOneLength rows → HaveOneLength (front_at n rows)
limit_even n rows one = (one.0, all-front (λ pos. length pos ≡ one.0) n rows one.1)

pub limit_empty : (n : ℕ) → front_at n [] ≡ []
limit_empty zero = refl
limit_empty (suc n) = refl
