-- The state of each accumulator is that over the rows of a group, also after one is added or removed, and its value is what is
-- accumulated over them.
use Rattle.std.specs.Prelude.{◌≡◌, ◌≤◌, suc, Bool, true, false, cond, List, [], ◌∷◌, ◌++◌, length, map, None, Some, refl}
use Rattle.std.proofs.Common.{ap, arith, append_assoc, subst, sym, ◌∙◌}
use Rattle.std.specs.declared.cmp.Ordering.{Ordering}
use Rattle.std.specs.declared.cmp.Ordering.TheVariants.{Less, Equal, Greater}
use Rattle.std.specs.List.{AllByRecursion}
use Rattle.std.specs.Ordering.{is_eq, match_ordering}
use Rattle.dv_value.specs.Tree.{Field, array, elements_of}
use Rattle.dv_row.specs.Expressions.{with_field_behind}
use Rattle.dv_row.specs.Row.{Row}
use Rattle.dv_change.specs.Changes.{Positioned, at, forget}
use Rattle.dv_change.specs.Inner.Changes.{IsPositioned}
use Rattle.dv_change.specs.Inner.Ordered.{gone, put}
use Rattle.dv_change.specs.Positions.{IsExact, PosTree, pos_order}
use Rattle.dv_gather.specs.declared.accumulator.Accumulator.{Accumulator}
use Rattle.dv_gather.specs.declared.accumulator.Accumulator.TheVariants.{Sum, Min, Max, Push}
use Rattle.dv_gather.specs.Grouping.{Accumulation, accumulated, field_over, values_over, with_accumulated}
use Rattle.dv_gather.specs.Inner.GroupStates.{with_named}
use Rattle.dv_gather.specs.Sums.{spelled}
use Rattle.dv_group.specs.declared.accumulator_state.RowChange.{RowChange}
use Rattle.dv_group.specs.declared.accumulator_state.RowChange.TheVariants.{Added, Removed}
use Rattle.dv_group.specs.Inner.SumBounds.{AreSummableIn, HasRoomFor, HaveRoom, IsSummable, IsSummableFor, IsSummableIn, IsWithinCount, most_rows}
use Rattle.dv_group.specs.Inner.AccumulatorStates.{AccumulatorState, states_after_at, state_after, states_after_from, state_by, state_over, sum_state, state_value, state_values, state_with_row, state_without_row}
use Rattle.dv_group.proofs.Pushing.{pushed-gone, pushed-put, pushed-values}
use Rattle.dv_group.proofs.Ranking.{first-greatest, first-least, ranked-gone, ranked-put}
use Rattle.dv_group.proofs.Summing.{counted, narrow-is, sum-gone, sum-put, total-is, int64s-gone, int64s-put, within-most}

-- ---- what holds of all rows

module _ (P : PosTree × Row → Type 0) where
  pub all-with : (p : PosTree) (d : Row) (rows : Positioned) → ((q : PosTree) → P (q, d)) → AllByRecursion P rows → AllByRecursion P (put p d rows)
  all-with p d [] new all = (new p, tt)
  all-with p d (e ∷ rows) new all = by (pos_order p e.0) (all-with p d rows new all.1)
    where
      by : (r : Ordering) → AllByRecursion P (put p d rows) → AllByRecursion P (match_ordering r ((p, d) ∷ e ∷ rows) ((e.0, d) ∷ rows) (e ∷ put p d rows))
      by Less rest = (new p, all)
      by Equal rest = (new e.0, all.1)
      by Greater rest = (all.0, rest)

  pub all-without : (p : PosTree) (rows : Positioned) → AllByRecursion P rows → AllByRecursion P (gone p rows)
  all-without p [] all = tt
  all-without p (e ∷ rows) all = by (is_eq (pos_order p e.0)) (all-without p rows all.1)
    where
      by : (b : Bool) → AllByRecursion P (gone p rows) → AllByRecursion P (cond b rows (e ∷ gone p rows))
      by true rest = all.1
      by false rest = (all.0, rest)

pub fewer : (p : PosTree) (rows : Positioned) → length (gone p rows) ≤ length rows
fewer p [] = omega arith
fewer p (e ∷ rows) = by (is_eq (pos_order p e.0)) (fewer p rows)
  where
    by : (b : Bool) → length (gone p rows) ≤ length rows → length (cond b rows (e ∷ gone p rows)) ≤ length (e ∷ rows)
    by true rest = omega arith
    by false rest = omega (arith, rest)

-- a relation of all rows to all fields, the fields first
module _ {A B : Type 0} (P : A → B → Type 0) where
  each-first : (x : A) (xs : List A) (ys : List B) → AllByRecursion (λ y. AllByRecursion (λ x. P x y) (x ∷ xs)) ys → AllByRecursion (λ y. P x y) ys × AllByRecursion (λ y. AllByRecursion (λ x. P x y) xs) ys
  each-first x xs [] all = (tt, tt)
  each-first x xs (y ∷ ys) all = let rest = each-first x xs ys all.1 in ((all.0.0, rest.0), (all.0.1, rest.1))

  turned : (xs : List A) (ys : List B) → AllByRecursion (λ y. AllByRecursion (λ x. P x y) xs) ys → AllByRecursion (λ x. AllByRecursion (λ y. P x y) ys) xs
  turned [] ys all = tt
  turned (x ∷ xs) ys all = let parts = each-first x xs ys all in (parts.0, turned xs ys parts.1)

-- ---- one field

module _ (a : Accumulation) (p : PosTree) (d : Row) (rows : Positioned) (are : IsPositioned rows) (x : IsExact p) where
  added : (accumulator : Accumulator) → a.accumulator ≡ accumulator → at p rows ≡ None → state_with_row a p d (state_by accumulator a rows) ≡ state_by accumulator a (put p d rows)
  added Sum is none = sym (λ i. sum_state (sum-put a p d rows none i) (int64s-put a p d rows none i))
  added Min is none = ap AccumulatorState.extreme_state (sym (ranked-put a p d rows are x none))
  added Max is none = ap AccumulatorState.extreme_state (sym (ranked-put a p d rows are x none))
  added Push is none = ap AccumulatorState.array_state (sym (pushed-put a p d rows are x none))

  removed : (accumulator : Accumulator) → a.accumulator ≡ accumulator → at p rows ≡ Some d → state_without_row a p d (state_by accumulator a rows) ≡ state_by accumulator a (gone p rows)
  removed Sum is there = sym (λ i. sum_state (sum-gone a p d rows there i) (int64s-gone a p d rows there i))
  removed Min is there = ap AccumulatorState.extreme_state (sym (ranked-gone a p d rows are x there))
  removed Max is there = ap AccumulatorState.extreme_state (sym (ranked-gone a p d rows are x there))
  removed Push is there = ap AccumulatorState.array_state (sym (pushed-gone a p rows are))

  room-to-add : (accumulator : Accumulator) → length rows ≤ most_rows → AllByRecursion (λ e. IsSummableFor accumulator a e.1) rows → HasRoomFor Added a p d (state_by accumulator a rows)
  room-to-add Sum few all = within-most a rows few all
  room-to-add Min few all = tt
  room-to-add Max few all = tt
  room-to-add Push few all = tt

  room-to-remove : (accumulator : Accumulator) → a.accumulator ≡ accumulator → at p rows ≡ Some d → length rows ≤ most_rows → AllByRecursion (λ e. IsSummableFor accumulator a e.1) rows → HasRoomFor Removed a p d (state_by accumulator a rows)
  room-to-remove Sum is there few all =
      let left = fewer p rows in
      (subst (λ (t : AccumulatorState). IsWithinCount most_rows t) (sym (removed Sum is there)) (within-most a (gone p rows) (omega (arith, left, few)) (all-without (λ e. IsSummableFor Sum a e.1) p rows all)), counted a p d rows there)
  room-to-remove Min is there few all = (tt, tt)
  room-to-remove Max is there few all = (tt, tt)
  room-to-remove Push is there few all = (tt, tt)

summable-for : (accumulator : Accumulator) (a : Accumulation) (d : Row) (rows : Positioned) → IsSummableIn (state_by accumulator a rows) a d → IsSummableFor accumulator a d
summable-for Sum a d rows summable = summable
summable-for Min a d rows summable = tt
summable-for Max a d rows summable = tt
summable-for Push a d rows summable = tt

value-is : (a : Accumulation) (rows : Positioned) → IsPositioned rows → (accumulator : Accumulator) → a.accumulator ≡ accumulator → state_value a (state_by accumulator a rows) ≡ accumulated accumulator (values_over a.argument (forget rows))
value-is a rows are Sum is = λ i. spelled (narrow-is a rows i) (total-is a rows i)
value-is a rows are Min is = first-least a rows is are
value-is a rows are Max is = first-greatest a rows is are
value-is a rows are Push is = ap (λ vs. array (elements_of vs)) (pushed-values a rows)

-- ---- all fields

after-past : (change : RowChange) (p : PosTree) (d : Row) (a : Accumulation) (done : List AccumulatorState) (t : AccumulatorState) (ts : List AccumulatorState) → states_after_at change p d (length done) a (done ++ t ∷ ts) ≡ done ++ state_after change a p d t ∷ ts
after-past change p d a [] t ts = refl
after-past change p d a (u ∷ done) t ts = ap (λ us. u ∷ us) (after-past change p d a done t ts)

length-more : {A : Type 0} (done : List A) (t : A) → length (done ++ t ∷ []) ≡ suc (length done)
length-more [] t = refl
length-more (u ∷ done) t = ap suc (length-more done t)

after-each : (change : RowChange) (p : PosTree) (d : Row) (before after : Accumulation → AccumulatorState) → ((a : Accumulation) → state_after change a p d (before a) ≡ after a)
    → (done : List AccumulatorState) (fields : List Accumulation) → states_after_from change p d (length done) fields (done ++ map before fields) ≡ done ++ map after fields
after-each change p d before after step done [] = refl
after-each change p d before after step done (a ∷ fields) =
    ap (states_after_from change p d (suc (length done)) fields) (after-past change p d a done (before a) (map before fields) ∙ ap (λ t. done ++ t ∷ map before fields) (step a))
    ∙ sym (λ i. states_after_from change p d (length-more done (after a) i) fields (append_assoc done (after a ∷ []) (map before fields) i))
    ∙ after-each change p d before after step (done ++ after a ∷ []) fields
    ∙ append_assoc done (after a ∷ []) (map after fields)

module _ (fields : List Accumulation) (p : PosTree) (d : Row) (rows : Positioned) (are : IsPositioned rows) (x : IsExact p) where
  pub all-added : at p rows ≡ None → states_after_from Added p d 0 fields (map (λ a. state_over a rows) fields) ≡ map (λ a. state_over a (put p d rows)) fields
  all-added none = after-each Added p d (λ a. state_over a rows) (λ a. state_over a (put p d rows)) (λ a. added a p d rows are x a.accumulator refl none) [] fields

  pub all-removed : at p rows ≡ Some d → states_after_from Removed p d 0 fields (map (λ a. state_over a rows) fields) ≡ map (λ a. state_over a (gone p rows)) fields
  all-removed there = after-each Removed p d (λ a. state_over a rows) (λ a. state_over a (gone p rows)) (λ a. removed a p d rows are x a.accumulator refl there) [] fields

module _ (p : PosTree) (d : Row) (rows : Positioned) (are : IsPositioned rows) (x : IsExact p) (few : length rows ≤ most_rows) where
  rooms : (change : RowChange) → ((a : Accumulation) → AllByRecursion (λ e. IsSummable a e.1) rows → HasRoomFor change a p d (state_over a rows))
      → (fields : List Accumulation) → AllByRecursion (λ a. AllByRecursion (λ e. IsSummable a e.1) rows) fields → HaveRoom change fields p d (map (λ a. state_over a rows) fields)
  rooms change one [] all = tt
  rooms change one (a ∷ fields) all = (one a all.0, rooms change one fields all.1)

  pub all-may-be-added : (fields : List Accumulation) → AllByRecursion (λ e. AllByRecursion (λ a. IsSummable a e.1) fields) rows → HaveRoom Added fields p d (map (λ a. state_over a rows) fields)
  all-may-be-added fields all = rooms Added (λ a summable. room-to-add a p d rows are x a.accumulator few summable) fields (turned (λ a e. IsSummable a e.1) fields rows all)

  pub all-may-be-removed : (fields : List Accumulation) → at p rows ≡ Some d → AllByRecursion (λ e. AllByRecursion (λ a. IsSummable a e.1) fields) rows → HaveRoom Removed fields p d (map (λ a. state_over a rows) fields)
  all-may-be-removed fields there all = rooms Removed (λ a summable. room-to-remove a p d rows are x a.accumulator refl there few summable) fields (turned (λ a e. IsSummable a e.1) fields rows all)

pub all-summable : (fields : List Accumulation) (d : Row) (rows : Positioned) → AreSummableIn (map (λ a. state_over a rows) fields) fields d → AllByRecursion (λ a. IsSummable a d) fields
all-summable [] d rows summable = tt
all-summable (a ∷ fields) d rows summable = (summable-for a.accumulator a d rows summable.0, all-summable fields d rows summable.1)

-- the values of the states are those that are accumulated
pub all-values : (fields : List Accumulation) (rows : Positioned) (fs : List Field) → IsPositioned rows → with_named fields (state_values fields (map (λ a. state_over a rows) fields)) fs ≡ with_accumulated fields (forget rows) fs
all-values [] rows fs are = refl
all-values (a ∷ fields) rows fs are =
    ap (λ v. with_named fields (state_values fields (map (λ a. state_over a rows) fields)) (with_field_behind a.name (Some v) fs)) (value-is a rows are a.accumulator refl)
    ∙ all-values fields rows (with_field_behind a.name (Some (field_over a (forget rows))) fs) are
