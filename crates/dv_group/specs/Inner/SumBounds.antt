-- How far sums can be from 0, by how many rows there are: definitions that bodies use.
use Rattle.std.specs.Prelude.{◌≡◌, ◌≤◌, ℕ, ◌-◌, ◌*◌, ◌^◌, pos, ◌+ℤ◌, ◌≤ℤ◌, List, [], ◌∷◌, map, Option, ⊤}
use Rattle.std.specs.List.{AllByRecursion}
use Rattle.dv_value.specs.Tree.{Tree}
use Rattle.dv_row.specs.Row.{Row}
use Rattle.dv_change.specs.Inner.Changes.{IsPositioned}
use Rattle.dv_change.specs.Positions.{PosTree}
use Rattle.dv_gather.specs.declared.accumulator.Accumulator.{Accumulator}
use Rattle.dv_gather.specs.declared.accumulator.Accumulator.TheVariants.{Sum, Min, Max, Push}
use Rattle.dv_gather.specs.Grouping.{Accumulation}
use Rattle.dv_group.specs.declared.group_state.GroupState.{GroupState}
use Rattle.dv_group.specs.declared.accumulator_state.RowChange.{RowChange}
use Rattle.dv_group.specs.declared.accumulator_state.RowChange.TheVariants.{Added, Removed}
use Rattle.dv_group.specs.Inner.AccumulatorStates.{AccumulatorState, adds, array_state, extreme_state, state_over, sum_state, field_value, int64s_in, state_without_row}
use Rattle.dv_group.specs.Inner.StateView.{state_seen}

-- how far from 0 the sum of so many numbers of 64 bits can be
abbrev pub reach : ℕ → ℕ
reach count = count * 2 ^ 63

-- the sum is no farther from 0 than that of so many rows can be, and no more values are int64s
abbrev pub IsWithinCount : ℕ → AccumulatorState → Type 0
IsWithinCount count (sum_state n int64s) = ((pos 0 ≤ℤ (n +ℤ pos (reach count))) × (n ≤ℤ pos (reach count))) × (int64s ≤ count)
IsWithinCount count (extreme_state rows) = ⊤
IsWithinCount count (array_state vs) = ⊤

-- as many rows as there can be
abbrev pub most_rows : ℕ
most_rows = 2 ^ 64 - 1

-- a row that is removed was counted
abbrev pub IsCounted : Accumulation → Row → AccumulatorState → Type 0
IsCounted a d (sum_state n int64s) = int64s_in (field_value a d) ≤ int64s
IsCounted a d (extreme_state rows) = ⊤
IsCounted a d (array_state vs) = ⊤

-- there is room for what is added, or for what is left
abbrev pub HasRoomFor : RowChange → Accumulation → PosTree → Row → AccumulatorState → Type 0
HasRoomFor Added a p d t = IsWithinCount most_rows t
HasRoomFor Removed a p d t = IsWithinCount most_rows (state_without_row a p d t) × IsCounted a d t

abbrev pub HaveRoom : RowChange → List Accumulation → PosTree → Row → List AccumulatorState → Type 0
HaveRoom change [] p d ts = ⊤
HaveRoom change (a ∷ fields) p d [] = ⊤
HaveRoom change (a ∷ fields) p d (t ∷ ts) = HasRoomFor change a p d t × HaveRoom change fields p d ts

-- a number of 64 bits
abbrev pub IsSummableValue : Option Tree → Type 0
IsSummableValue v = (pos 0 ≤ℤ (adds v +ℤ pos (2 ^ 63))) × (adds v ≤ℤ pos (2 ^ 63))

-- a row's number is one, if it is summed
abbrev pub IsSummableFor : Accumulator → Accumulation → Row → Type 0
IsSummableFor Sum a d = IsSummableValue (field_value a d)
IsSummableFor Min a d = ⊤
IsSummableFor Max a d = ⊤
IsSummableFor Push a d = ⊤

abbrev pub IsSummable : Accumulation → Row → Type 0
IsSummable a d = IsSummableFor a.accumulator a d

-- the same by the state
abbrev pub IsSummableIn : AccumulatorState → Accumulation → Row → Type 0
IsSummableIn (sum_state n int64s) a d = IsSummableFor Sum a d
IsSummableIn (extreme_state rows) a d = ⊤
IsSummableIn (array_state vs) a d = ⊤

abbrev pub AreSummableIn : List AccumulatorState → List Accumulation → Row → Type 0
AreSummableIn ts [] d = ⊤
AreSummableIn [] (a ∷ fields) d = ⊤
AreSummableIn (t ∷ ts) (a ∷ fields) d = IsSummableIn t a d × AreSummableIn ts fields d

-- the rows of a group, and the states of its accumulators over them
pub record IsGroupState (fields : List Accumulation) (b : GroupState) : Type 0 where
  pub positioned : IsPositioned b.members
  pub states : map state_seen b.states.items ≡ map (λ a. state_over a b.members) fields
  pub summable : AllByRecursion (λ e. AllByRecursion (λ a. IsSummable a e.1) fields) b.members
