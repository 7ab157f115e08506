-- How far sums can be from 0, given how many numbers of 64 bits were added: definitions for bodies.
use Rattle.std.specs.Prelude.{ℕ, zero, suc, ◌-◌, ◌*◌, ◌^◌, pos, ◌+ℤ◌, ◌≤ℤ◌, List, [], ◌∷◌}
use Rattle.std.specs.List.{AllByRecursion}
use Rattle.dv_order.specs.Key.{KeyTree}
use Rattle.dv_gather.specs.Inner.GroupStates.{GroupState}
use Rattle.dv_gather.specs.Inner.AccumulatorStates.{AccumulatorState, sum_state, extreme_state, array_state}

-- the sum is no farther from 0 than `count` numbers can bring it
abbrev pub IsWithinCount : ℕ → AccumulatorState → Type 0
IsWithinCount count (sum_state n narrow) = (pos 0 ≤ℤ (n +ℤ pos (count * 2 ^ 63))) × (n ≤ℤ pos (count * 2 ^ 63))
IsWithinCount count (extreme_state e v) = Unit {0}
IsWithinCount count (array_state vs) = Unit {0}

-- states of `count` rows, and before a place of one row more
abbrev pub AreWithin : ℕ → ℕ → List AccumulatorState → Type 0
AreWithin place count [] = Unit {0}
AreWithin zero count (t ∷ ts) = IsWithinCount count t × AreWithin zero count ts
AreWithin (suc place) count (t ∷ ts) = IsWithinCount (suc count) t × AreWithin place count ts

-- groups of `count` rows
abbrev pub EachWithin : ℕ → List (KeyTree × GroupState) → Type 0
EachWithin count = AllByRecursion (λ e. AreWithin 0 count e.1.1)

-- how many numbers can be added so that there is room in 128 bits for one more
abbrev pub most : ℕ
most = 2 ^ 64 - 2
