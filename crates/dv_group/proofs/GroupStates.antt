-- A group to which rows are added, and from which rows are removed, stays sound, and shows its row.
use Rattle.std.specs.Prelude.{◌≡◌, ◌≤◌, Bool, true, false, cond, codes, List, [], ◌∷◌, length, map, Option, None, Some, slice_get, refl}
use Rattle.std.proofs.Common.{ap, subst, sym, ◌∙◌}
use Rattle.std.specs.Cmp.{tied_itself}
use Rattle.std.specs.List.{AllByRecursion}
use Rattle.std.specs.Option.{IfSome}
use Rattle.std.specs.Ordering.{is_eq}
use Rattle.dv_value.specs.Tree.{Tree}
use Rattle.dv_value.specs.Inner.ListLaws.{cond-over}
use Rattle.dv_row.specs.Row.{Row}
use Rattle.dv_change.specs.Changes.{Positioned, at, forget}
use Rattle.dv_change.specs.Inner.Changes.{IsPositioned}
use Rattle.dv_change.specs.Inner.Ordered.{gone, put}
use Rattle.dv_change.specs.Inner.PositionLaws.{pos_order_total}
use Rattle.dv_change.specs.Positions.{IsExact, PosTree, pos_order}
use Rattle.dv_change.specs.Inner.RowLaws.{at-gone, at-put, at_back, positioned-gone, positioned-put, same_rows}
use Rattle.dv_gather.specs.Grouping.{Accumulation, Grouping, key_in, row_shown, with_accumulated}
use Rattle.dv_gather.specs.Inner.GroupStates.{row_of_values}
use Rattle.dv_group.specs.declared.group_state.GroupState.{GroupState}
use Rattle.dv_group.specs.declared.accumulator_state.AccumulatorState as memory
use Rattle.dv_group.specs.declared.accumulator_state.AccumulatorState.TheVariants.{Sum}
use Rattle.dv_group.specs.declared.accumulator_state.RowChange.TheVariants.{Added, Removed}
use Rattle.dv_group.specs.declared.sum_state.SumState.{SumState}
use Rattle.dv_group.specs.Inner.Members.{set_at}
use Rattle.dv_group.specs.Inner.SumBounds.{AreSummableIn, HaveRoom, IsGroupState, IsSummable, IsSummableIn, IsSummableValue, most_rows}
use Rattle.dv_group.specs.Inner.AccumulatorStates.{AccumulatorState, states_after_from, states_after_some, state_over, state_values, field_value}
use Rattle.dv_group.specs.Inner.StateView.{state_seen}
use Rattle.dv_group.proofs.AccumulatorStates.{all-added, all-with, all-without, all-may-be-added, all-may-be-removed, all-summable, all-values, all-removed}

-- ---- rows at a position

-- putting a row at a position is the same after the row there is removed
pub put-over : (p : PosTree) (d : Row) (rows : Positioned) → IsPositioned rows → IsExact p → put p d (gone p rows) ≡ put p d rows
put-over p d rows are x =
    same_rows (put p d (gone p rows)) (put p d rows) (positioned-put p d (gone p rows) (positioned-gone p rows are) x) (positioned-put p d rows are x)
    (λ q y.
    at-put q p d (gone p rows)
    ∙ ap (cond (is_eq (pos_order q p)) (Some d)) (at-gone q p rows are.ascending ∙ ap (λ b. cond b None (at q rows)) (at_back p q))
    ∙ cond-over (is_eq (pos_order q p)) (Some d) None (at q rows)
    ∙ sym (at-put q p d rows))

-- there is no row where one was removed
pub none-left : (p : PosTree) (rows : Positioned) → IsPositioned rows → at p (gone p rows) ≡ None
none-left p rows are = at-gone p p rows are.ascending ∙ ap (λ o. cond (is_eq o) None (at p rows)) (tied_itself pos_order_total p)

-- if there is no row, none is removed
gone-none : (p : PosTree) (rows : Positioned) → at p rows ≡ None → gone p rows ≡ rows
gone-none p [] none = refl
gone-none p (e ∷ rows) none = by (is_eq (pos_order p e.0)) none (λ none. gone-none p rows none)
  where
    by : (b : Bool) → cond b (Some e.1) (at p rows) ≡ None → (at p rows ≡ None → gone p rows ≡ rows) → cond b rows (e ∷ gone p rows) ≡ e ∷ rows
    by true none rest = cc
    by false none rest = ap (λ es. e ∷ es) (rest none)

-- setting a row, or none, is the same after the row there is removed
pub set-over : (p : PosTree) (r : Option Row) (rows : Positioned) → IsPositioned rows → IsExact p → set_at p r (gone p rows) ≡ set_at p r rows
set-over p None rows are x = gone-none p (gone p rows) (none-left p rows are)
set-over p (Some d) rows are x = put-over p d rows are x

module _ (fields : List Accumulation) (p : PosTree) (x : IsExact p) (before : GroupState) (sound : IsGroupState fields before) where
  -- ---- there is room

  may-be-added : (d : Row) → length before.members ≤ most_rows → HaveRoom Added fields p d (map state_seen before.states.items)
  may-be-added d few = subst (λ ts. HaveRoom Added fields p d ts) (sym sound.states) (all-may-be-added p d before.members sound.positioned x few fields sound.summable)

  may-be-removed : (d : Row) → length before.members ≤ most_rows → at p before.members ≡ Some d → HaveRoom Removed fields p d (map state_seen before.states.items)
  may-be-removed d few there = subst (λ ts. HaveRoom Removed fields p d ts) (sym sound.states) (all-may-be-removed p d before.members sound.positioned x few fields there sound.summable)

  -- for the row that is put at the position, if any, and without the row that was there
  pub room-for-some : (row : Option Row) → length before.members ≤ most_rows → IfSome row (λ d. HaveRoom Added fields p d (map state_seen before.states.items))
  room-for-some None few = tt
  room-for-some (Some d) few = may-be-added d few

  pub room-without : (old : Option Row) → length before.members ≤ most_rows → old ≡ at p before.members → IfSome old (λ d. HaveRoom Removed fields p d (map state_seen before.states.items))
  room-without None few stood = tt
  room-without (Some d) few stood = may-be-removed d few (sym stood)

  -- ---- a row is added, or removed

  module _ (after : GroupState) where
    added-sound : (d : Row) → at p before.members ≡ None → after.members ≡ put p d before.members → map state_seen after.states.items ≡ states_after_from Added p d 0 fields (map state_seen before.states.items) → AreSummableIn (map state_seen before.states.items) fields d → IsGroupState fields after
    added-sound d none come after-is summable =
        let each : AllByRecursion (λ a. IsSummable a d) fields = all-summable fields d before.members (subst (λ ts. AreSummableIn ts fields d) sound.states summable) in
        record {
          positioned = subst (λ (es : Positioned). IsPositioned es) (sym come) (positioned-put p d before.members sound.positioned x);
          states = after-is ∙ ap (states_after_from Added p d 0 fields) sound.states ∙ all-added fields p d before.members sound.positioned x none ∙ ap (λ es. map (λ a. state_over a es) fields) (sym come);
          summable = subst (λ (es : Positioned). AllByRecursion (λ e. AllByRecursion (λ a. IsSummable a e.1) fields) es) (sym come) (all-with (λ e. AllByRecursion (λ a. IsSummable a e.1) fields) p d before.members (λ q. each) sound.summable);
        }

    removed-summable : after.members ≡ gone p before.members → AllByRecursion (λ e. AllByRecursion (λ a. IsSummable a e.1) fields) after.members
    removed-summable left = subst (λ (es : Positioned). AllByRecursion (λ e. AllByRecursion (λ a. IsSummable a e.1) fields) es) (sym left) (all-without (λ e. AllByRecursion (λ a. IsSummable a e.1) fields) p before.members sound.summable)

    removed-positioned : after.members ≡ gone p before.members → IsPositioned after.members
    removed-positioned left = subst (λ (es : Positioned). IsPositioned es) (sym left) (positioned-gone p before.members sound.positioned)

    removed-sound : (d : Row) → at p before.members ≡ Some d → after.members ≡ gone p before.members → map state_seen after.states.items ≡ states_after_from Removed p d 0 fields (map state_seen before.states.items) → IsGroupState fields after
    removed-sound d there left after-is = record {
      positioned = removed-positioned left;
      states = after-is ∙ ap (states_after_from Removed p d 0 fields) sound.states ∙ all-removed fields p d before.members sound.positioned x there ∙ ap (λ es. map (λ a. state_over a es) fields) (sym left);
      summable = removed-summable left;
    }

    none-removed : at p before.members ≡ None → after.members ≡ gone p before.members → map state_seen after.states.items ≡ map state_seen before.states.items → IsGroupState fields after
    none-removed none left same = record {
      positioned = removed-positioned left;
      states = same ∙ sound.states ∙ ap (λ es. map (λ a. state_over a es) fields) (sym (left ∙ gone-none p before.members none));
      summable = removed-summable left;
    }

    -- the row that was at the position is removed, if there was one
    pub sound-without : (old : Option Row) → old ≡ at p before.members → after.members ≡ gone p before.members → map state_seen after.states.items ≡ states_after_some Removed p old fields (map state_seen before.states.items) → IsGroupState fields after
    sound-without None stood left after-is = none-removed (sym stood) left after-is
    sound-without (Some d) stood left after-is = removed-sound d (sym stood) left after-is

    -- at a position without a row, one is added, if there is one to add
    pub sound-with : (row : Option Row) → at p before.members ≡ None → after.members ≡ set_at p row before.members → map state_seen after.states.items ≡ states_after_some Added p row fields (map state_seen before.states.items) → IfSome row (λ d. AreSummableIn (map state_seen before.states.items) fields d)
        → IsGroupState fields after
    sound-with None none come after-is summable = none-removed none come after-is
    sound-with (Some d) none come after-is summable = added-sound d none come after-is summable

-- ---- what is shown

pub summable-seen : (t : memory.AccumulatorState) (s : SumState) (a : Accumulation) (d : Row) (v : Option Tree) → t ≡ Sum s → v ≡ field_value a d → IsSummableValue v → IsSummableIn (state_seen t) a d
summable-seen t s a d v is same summable = subst (λ u. IsSummableIn (state_seen u) a d) (sym is) (subst (λ (o : Option Tree). IsSummableValue o) same summable)

-- the row of a group is computed from its first row and the values of its states
pub row-is-shown : (g : Grouping) (rows : Positioned) (e : PosTree × Row) (ts : List AccumulatorState) → IsPositioned rows → slice_get rows 0 ≡ Some e → ts ≡ map (λ a. state_over a rows) g.fields
    → Some (row_of_values g.fields (key_in g e.1 ∷ state_values g.fields ts)) ≡ row_shown g (forget rows)
row-is-shown g [] e ts are first same = cc
row-is-shown g (r ∷ rows) e ts are first same =
    let own : r ≡ e = cc in
    ap (λ us. Some (row_of_values g.fields (key_in g e.1 ∷ state_values g.fields us))) same
    ∙ ap Some (all-values g.fields (r ∷ rows) ((codes "_id", key_in g e.1) ∷ []) are)
    ∙ ap (λ f. Some (with_accumulated g.fields (forget (r ∷ rows)) ((codes "_id", key_in g f.1) ∷ []))) (sym own)
