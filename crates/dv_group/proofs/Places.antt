-- The states of accumulators, place by place.
use Rattle.std.specs.Prelude.{◌≡◌, ◌⊎◌, ◌≤◌, ◌<◌, ℕ, zero, suc, ◌+◌, List, [], ◌∷◌, drop, get_or, length, map, slice_set, refl}
use Rattle.std.proofs.Common.{add-one, ap, arith, inl, inr, subst, sym, ◌∙◌}
use Rattle.std.proofs.lemmas.List.{drop_more}
use Rattle.dv_row.specs.Row.{Row}
use Rattle.dv_change.specs.Positions.{PosTree}
use Rattle.dv_gather.specs.Grouping.{Accumulation}
use Rattle.dv_group.specs.declared.accumulator_state.AccumulatorState as memory
use Rattle.dv_group.specs.declared.accumulator_state.RowChange.{RowChange}
use Rattle.dv_group.specs.Inner.SumBounds.{AreSummableIn, HasRoomFor, HaveRoom, IsSummableIn}
use Rattle.dv_group.specs.Inner.AccumulatorStates.{AccumulatorState, states_after_at, state_after, states_after_from, state_values}
use Rattle.dv_group.specs.Inner.StateView.{state_seen}

pub drop-one : {A : Type 0} (n : ℕ) (xs : List A) → drop 1 (drop n xs) ≡ drop (suc n) xs
drop-one zero xs = refl
drop-one (suc n) [] = refl
drop-one (suc n) (x ∷ xs) = drop-one n xs

-- the place that a loop is at, and those after it
pub place-left : {X Y : Type 0} (f : X → Y) (xs : List X) (n : ℕ) (x : X) → n < length xs → x ≡ get_or xs n x → map f (drop n xs) ≡ f x ∷ map f (drop (n + 1) xs)
place-left f xs n x within is = ap (map f) (drop_more xs n x within) ∙ ap (λ y. f y ∷ map f (drop (n + 1) xs)) (sym is)

module _ (change : RowChange) (a : Accumulation) (p : PosTree) (d : Row) where
  -- ---- room

  pub room-first : (fields : List Accumulation) (ts : List AccumulatorState) → HaveRoom change (a ∷ fields) p d ts → HaveRoom change (a ∷ []) p d ts
  room-first fields [] room = tt
  room-first fields (t ∷ ts) room = (room.0, tt)

  pub room-rest : (fields : List Accumulation) (ts : List AccumulatorState) → HaveRoom change (a ∷ fields) p d ts → HaveRoom change fields p d (drop 1 ts)
  room-rest [] ts room = tt
  room-rest (b ∷ fields) [] room = tt
  room-rest (b ∷ fields) (t ∷ ts) room = room.1

  pub room-at : (place : ℕ) (ts : List memory.AccumulatorState) (none : memory.AccumulatorState) → place < length ts → HaveRoom change (a ∷ []) p d (drop place (map state_seen ts)) → HasRoomFor change a p d (state_seen (get_or ts place none))
  room-at place [] none within room = absurd (omega arith)
  room-at zero (t ∷ ts) none within room = room.0
  room-at (suc place) (t ∷ ts) none within room = room-at place ts none (omega arith) room

  -- ---- a row is added, or removed

  pub after-here : (place : ℕ) (ts : List memory.AccumulatorState) (none now : memory.AccumulatorState) → place < length ts → state_seen now ≡ state_after change a p d (state_seen (get_or ts place none)) → map state_seen (slice_set ts place now) ≡ states_after_at change p d place a (map state_seen ts)
  after-here place [] none now within changed = absurd (omega arith)
  after-here zero (t ∷ ts) none now within changed = ap (λ s. s ∷ map state_seen ts) changed
  after-here (suc place) (t ∷ ts) none now within changed = ap (λ l. state_seen t ∷ l) (after-here place ts none now (omega arith) changed)

  pub after-nowhere : (place : ℕ) (ts : List memory.AccumulatorState) → length ts ≤ place → map state_seen ts ≡ states_after_at change p d place a (map state_seen ts)
  after-nowhere place [] past = refl
  after-nowhere zero (t ∷ ts) past = absurd (omega arith)
  after-nowhere (suc place) (t ∷ ts) past = ap (λ l. state_seen t ∷ l) (after-nowhere place ts (omega arith))

  pub behind-after : (place : ℕ) (ts : List AccumulatorState) → drop (suc place) (states_after_at change p d place a ts) ≡ drop (suc place) ts
  behind-after place [] = refl
  behind-after zero (t ∷ ts) = refl
  behind-after (suc place) (t ∷ ts) = behind-after place ts

module _ (a : Accumulation) (d : Row) where
  -- ---- what was summable

  pub summable-here : (place : ℕ) (ts : List memory.AccumulatorState) (none : memory.AccumulatorState) → place < length ts → IsSummableIn (state_seen (get_or ts place none)) a d → AreSummableIn (drop place (map state_seen ts)) (a ∷ []) d
  summable-here place [] none within summable = absurd (omega arith)
  summable-here zero (t ∷ ts) none within summable = (summable, tt)
  summable-here (suc place) (t ∷ ts) none within summable = summable-here place ts none (omega arith) summable

  pub summable-nowhere : (place : ℕ) (ts : List memory.AccumulatorState) → length ts ≤ place → AreSummableIn (drop place (map state_seen ts)) (a ∷ []) d
  summable-nowhere zero [] past = tt
  summable-nowhere (suc place) [] past = tt
  summable-nowhere zero (t ∷ ts) past = absurd (omega arith)
  summable-nowhere (suc place) (t ∷ ts) past = summable-nowhere place ts (omega arith)

  pub summable-join : (fields : List Accumulation) (ts : List AccumulatorState) → AreSummableIn ts (a ∷ []) d → AreSummableIn (drop 1 ts) fields d → AreSummableIn ts (a ∷ fields) d
  summable-join fields [] one rest = tt
  summable-join fields (t ∷ ts) one rest = (one.0, rest)

-- ---- one step

-- the state of one field changes, and the fields after it are left
module _ (change : RowChange) (a : Accumulation) (p : PosTree) (d : Row) (fields : List Accumulation) (place : ℕ) (first so_far after all : List AccumulatorState) (R : Type 0)
    (same : drop place so_far ≡ drop place first) (followed : after ≡ states_after_at change p d place a so_far) where
  pub step-after : states_after_from change p d place (a ∷ fields) so_far ≡ all → states_after_from change p d (place + 1) fields after ≡ all
  step-after changed = rw add-one (ap (states_after_from change p d (suc place) fields) followed ∙ changed)

  pub step-same : drop (place + 1) after ≡ drop (place + 1) first
  step-same = rw add-one (ap (drop (suc place)) followed ∙ behind-after change a p d place so_far ∙ sym (drop-one place so_far) ∙ ap (drop 1) same ∙ drop-one place first)

  pub step-room : HaveRoom change (a ∷ fields) p d (drop place first) → HaveRoom change fields p d (drop (place + 1) first)
  step-room room = rw add-one (subst (λ ts. HaveRoom change fields p d ts) (drop-one place first) (room-rest change a p d fields (drop place first) room))

  pub step-summable : AreSummableIn (drop place so_far) (a ∷ []) d → (AreSummableIn (drop place first) (a ∷ fields) d → R) → AreSummableIn (drop (place + 1) first) fields d → R
  step-summable one summable rest =
      summable (summable-join a d fields (drop place first) (subst (λ ts. AreSummableIn ts (a ∷ []) d) same one) (subst (λ ts. AreSummableIn ts fields d) (ap (λ n. drop n first) (add-one place) ∙ sym (drop-one place first)) rest))

-- ---- the values of states

-- if one of the two lists ends, there are no more values
pub values-ended : (fields : List Accumulation) (ts : List AccumulatorState) → (length fields ≡ 0) ⊎ (length ts ≡ 0) → state_values fields ts ≡ []
values-ended [] ts over = refl
values-ended (a ∷ fields) [] over = refl
values-ended (a ∷ fields) (t ∷ ts) (inl none) = absurd (omega (arith, none))
values-ended (a ∷ fields) (t ∷ ts) (inr none) = absurd (omega (arith, none))
