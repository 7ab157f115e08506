-- What a group holds for one accumulator, over the values so far: definitions for bodies.
use Rattle.std.specs.Prelude.{ℕ, zero, suc, ℤ, pos, ◌+ℤ◌, Bool, true, not, ◌&&◌, List, [], ◌∷◌, ◌++◌}
use Rattle.dv_value.specs.Tree.{Tree, array, null, elements_of}
use Rattle.dv_gather.specs.declared.extreme.Extreme.{Extreme}
use Rattle.dv_gather.specs.declared.extreme.Extreme.TheVariants.{Least, Greatest}
use Rattle.dv_gather.specs.declared.accumulator.Accumulator.{Accumulator}
use Rattle.dv_gather.specs.declared.accumulator.Accumulator.TheVariants.{Sum, Min, Max, Push}
use Rattle.dv_gather.specs.Extremes.{better}
use Rattle.dv_gather.specs.Sums.{addend, is_int64, spelled}

-- a sum, and whether no number was an int64; the least or the greatest value; or all values
pub data AccumulatorState : Type 0 where
  sum_state : ℤ → Bool → AccumulatorState
  extreme_state : Extreme → Tree → AccumulatorState
  array_state : List Tree → AccumulatorState

-- the state over no values
abbrev pub of_none : Accumulator → AccumulatorState
of_none Sum = sum_state (pos 0) true
of_none Min = extreme_state Least null
of_none Max = extreme_state Greatest null
of_none Push = array_state []

-- the state with one more value, after the others
abbrev pub with_value : Tree → AccumulatorState → AccumulatorState
with_value v (sum_state n narrow) = sum_state (n +ℤ addend v) (narrow && not (is_int64 v))
with_value v (extreme_state e b) = extreme_state e (better e v b)
with_value v (array_state vs) = array_state (vs ++ v ∷ [])

abbrev pub with_each_value : List Tree → AccumulatorState → AccumulatorState
with_each_value [] t = t
with_each_value (v ∷ vs) t = with_each_value vs (with_value v t)

-- the states with one more value in the state at a place, if there is one
abbrev pub with_value_at : ℕ → Tree → List AccumulatorState → List AccumulatorState
with_value_at i v [] = []
with_value_at zero v (t ∷ ts) = with_value v t ∷ ts
with_value_at (suc i) v (t ∷ ts) = t ∷ with_value_at i v ts

-- what the accumulator returns for the values
abbrev pub state_value : AccumulatorState → Tree
state_value (sum_state n narrow) = spelled narrow n
state_value (extreme_state e b) = b
state_value (array_state vs) = array (elements_of vs)
