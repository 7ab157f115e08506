-- The values of a group's rows at their positions, as a row is added or removed.
use Rattle.std.specs.Prelude.{◌≡◌, Bool, true, false, cond, List, [], ◌∷◌, map, Option, None, Some, refl}
use Rattle.std.proofs.Common.{ap, sym, ◌∙◌}
use Rattle.std.specs.declared.cmp.Ordering.{Ordering}
use Rattle.std.specs.declared.cmp.Ordering.TheVariants.{Less, Equal, Greater}
use Rattle.std.specs.List.{AllByRecursion}
use Rattle.std.specs.List.Sorted.{IsStrictlySortedBy}
use Rattle.std.specs.Map.{keys_of}
use Rattle.std.specs.Ordering.{is_eq, match_ordering}
use Rattle.dv_value.specs.declared.value.Value.{Value}
use Rattle.dv_value.specs.Tree.{Tree}
use Rattle.dv_value.specs.View.{tree}
use Rattle.dv_row.specs.Row.{Row}
use Rattle.dv_change.specs.Changes.{Positioned, at, forget}
use Rattle.dv_change.specs.Inner.Changes.{IsPositioned}
use Rattle.dv_change.specs.Inner.Ordered.{gone, put}
use Rattle.dv_change.specs.Inner.PositionLaws.{pos_order_total}
use Rattle.dv_change.specs.Positions.{IsExact, PosTree, pos_order}
use Rattle.dv_change.specs.Inner.RowLaws.{all-implied, past, positioned-tail, put-front}
use Rattle.dv_gather.specs.Grouping.{Accumulation, values_over, with_present}
use Rattle.dv_group.specs.declared.accumulator_state.RowChange.{RowChange}
use Rattle.dv_group.specs.declared.accumulator_state.RowChange.TheVariants.{Added, Removed}
use Rattle.dv_group.specs.Inner.AccumulatorStates.{Values, field_value, state_after, array_state, pushed_over, repushed, values_in, with_first, with_pushed}
use Rattle.dv_group.specs.Inner.StateView.{values_seen}

module _ {V W : Type 0} (f : V → W) where
  abbrev pub each_seen : List (PosTree × V) → List (PosTree × W)
  each_seen es = map (λ e. (e.0, f e.1)) es

  -- adding or removing an entry is the same before and after `f` is applied
  pub seen-put : (p : PosTree) (v : V) (es : List (PosTree × V)) → each_seen (put p v es) ≡ put p (f v) (each_seen es)
  seen-put p v [] = refl
  seen-put p v (e ∷ es) = by (pos_order p e.0) (seen-put p v es)
    where
      by : (r : Ordering) → each_seen (put p v es) ≡ put p (f v) (each_seen es) → each_seen (match_ordering r ((p, v) ∷ e ∷ es) ((e.0, v) ∷ es) (e ∷ put p v es)) ≡ match_ordering r ((p, f v) ∷ (e.0, f e.1) ∷ each_seen es) ((e.0, f v) ∷ each_seen es) ((e.0, f e.1) ∷ put p (f v) (each_seen es))
      by Less rest = refl
      by Equal rest = refl
      by Greater rest = ap (λ fs. (e.0, f e.1) ∷ fs) rest

  pub seen-gone : (p : PosTree) (es : List (PosTree × V)) → each_seen (gone p es) ≡ gone p (each_seen es)
  seen-gone p [] = refl
  seen-gone p (e ∷ es) = by (is_eq (pos_order p e.0)) (seen-gone p es)
    where
      by : (b : Bool) → each_seen (gone p es) ≡ gone p (each_seen es) → each_seen (cond b es (e ∷ gone p es)) ≡ cond b (each_seen es) ((e.0, f e.1) ∷ gone p (each_seen es))
      by true rest = refl
      by false rest = ap (λ fs. (e.0, f e.1) ∷ fs) rest

-- a value is added among others, or removed
pub values_put : (p : PosTree) (v : Value) (vs : List (PosTree × Value)) → values_seen (put p v vs) ≡ put p (tree v) (values_seen vs)
values_put p v vs = seen-put tree p v vs

pub values_gone : (p : PosTree) (vs : List (PosTree × Value)) → values_seen (gone p vs) ≡ gone p (values_seen vs)
values_gone p vs = seen-gone tree p vs

module _ (a : Accumulation) where
  abbrev of : Row → Option Tree
  of d = field_value a d

  -- what holds of all positions of rows holds of those of their values
  all-first : (P : PosTree → Type 0) (p : PosTree) (o : Option Tree) (vs : Values) → P p → AllByRecursion P (keys_of vs) → AllByRecursion P (keys_of (with_first p o vs))
  all-first P p None vs one all = all
  all-first P p (Some v) vs one all = (one, all)

  all-over : (P : PosTree → Type 0) (rows : Positioned) → AllByRecursion P (keys_of rows) → AllByRecursion P (keys_of (pushed_over a rows))
  all-over P [] all = tt
  all-over P (r ∷ rows) all = all-first P r.0 (of r.1) (pushed_over a rows) all.0 (all-over P rows all.1)

  first-less : (r : PosTree × Row) (rows : Positioned) → IsPositioned (r ∷ rows) → AllByRecursion (λ q. pos_order r.0 q ≡ Less) (keys_of rows)
  unfolding IsStrictlySortedBy
  first-less r rows are = are.ascending.0

  -- a value before all others comes first
  put-below : (p : PosTree) (o : Option Tree) (vs : Values) → AllByRecursion (λ q. pos_order p q ≡ Less) (keys_of vs) → with_first p o vs ≡ with_pushed p o vs
  put-below p None vs below = refl
  put-below p (Some v) vs below = sym (put-front p v vs below)

  -- a value after the first one
  put-behind : (p : PosTree) (o : Option Tree) (q : PosTree) (there : Option Tree) (vs : Values) → pos_order p q ≡ Greater → with_first q there (with_pushed p o vs) ≡ with_pushed p o (with_first q there vs)
  put-behind p None q there vs h = refl
  put-behind p (Some v) q None vs h = refl
  put-behind p (Some v) q (Some w) vs h = ap (λ r. match_ordering r ((p, v) ∷ (q, w) ∷ vs) ((q, v) ∷ vs) ((q, w) ∷ put p v vs)) (sym h)

  gone-here : (p : PosTree) (q : PosTree) (there : Option Tree) (vs : Values) → is_eq (pos_order p q) ≡ true → gone p vs ≡ vs → vs ≡ gone p (with_first q there vs)
  gone-here p q None vs h none = sym none
  gone-here p q (Some w) vs h none = ap (λ b. cond b vs ((q, w) ∷ gone p vs)) (sym h)

  gone-behind : (p : PosTree) (q : PosTree) (there : Option Tree) (vs : Values) → is_eq (pos_order p q) ≡ false → with_first q there (gone p vs) ≡ gone p (with_first q there vs)
  gone-behind p q None vs h = refl
  gone-behind p q (Some w) vs h = ap (λ b. cond b vs ((q, w) ∷ gone p vs)) (sym h)

  -- a row is added where there is none
  pub pushed-put : (p : PosTree) (d : Row) (rows : Positioned) → IsPositioned rows → IsExact p → at p rows ≡ None → pushed_over a (put p d rows) ≡ with_pushed p (of d) (pushed_over a rows)
  pushed-put p d [] are x none = put-below p (of d) [] tt
  pushed-put p d (r ∷ rows) are x none = by (pos_order p r.0) refl (pushed-put p d rows (positioned-tail r rows are) x)
    where
      by : (o : Ordering) → pos_order p r.0 ≡ o → (at p rows ≡ None → pushed_over a (put p d rows) ≡ with_pushed p (of d) (pushed_over a rows))
          → pushed_over a (match_ordering o ((p, d) ∷ r ∷ rows) ((r.0, d) ∷ rows) (r ∷ put p d rows)) ≡ with_pushed p (of d) (pushed_over a (r ∷ rows))
      by Less h rest =
          put-below p (of d) (pushed_over a (r ∷ rows)) (all-over (λ q. pos_order p q ≡ Less) (r ∷ rows) (h, all-implied (λ q. pos_order r.0 q ≡ Less) (λ q. pos_order p q ≡ Less) (λ q below. pos_order_total.trans p r.0 q h below) (keys_of rows) (first-less r rows are)))
      by Equal h rest = absurd (let some : at p (r ∷ rows) ≡ Some r.1 = ap (λ o. cond (is_eq o) (Some r.1) (at p rows)) h in cc)
      by Greater h rest =
          let behind : at p rows ≡ None = ap (λ o. cond (is_eq o) (Some r.1) (at p rows)) (sym h) ∙ none in
          ap (with_first r.0 (of r.1)) (rest behind) ∙ put-behind p (of d) r.0 (of r.1) (pushed_over a rows) h

  -- if there is no row, no value is removed
  none-gone : (p : PosTree) (rows : Positioned) → at p rows ≡ None → gone p (pushed_over a rows) ≡ pushed_over a rows
  none-gone p [] none = refl
  none-gone p (r ∷ rows) none = by (is_eq (pos_order p r.0)) refl none (none-gone p rows)
    where
      by : (b : Bool) → is_eq (pos_order p r.0) ≡ b → cond b (Some r.1) (at p rows) ≡ None → (at p rows ≡ None → gone p (pushed_over a rows) ≡ pushed_over a rows) → gone p (pushed_over a (r ∷ rows)) ≡ pushed_over a (r ∷ rows)
      by true h none rest = cc
      by false h none rest = sym (gone-behind p r.0 (of r.1) (pushed_over a rows) h) ∙ ap (with_first r.0 (of r.1)) (rest none)

  -- a row is removed
  pub pushed-gone : (p : PosTree) (rows : Positioned) → IsPositioned rows → pushed_over a (gone p rows) ≡ gone p (pushed_over a rows)
  pushed-gone p [] are = refl
  pushed-gone p (r ∷ rows) are = by (is_eq (pos_order p r.0)) refl (pushed-gone p rows (positioned-tail r rows are))
    where
      by : (b : Bool) → is_eq (pos_order p r.0) ≡ b → pushed_over a (gone p rows) ≡ gone p (pushed_over a rows) → pushed_over a (cond b rows (r ∷ gone p rows)) ≡ gone p (pushed_over a (r ∷ rows))
      by true h rest = gone-here p r.0 (of r.1) (pushed_over a rows) h (none-gone p rows (past p r rows are h))
      by false h rest = ap (with_first r.0 (of r.1)) rest ∙ gone-behind p r.0 (of r.1) (pushed_over a rows) h

  values-first : (p : PosTree) (o : Option Tree) (vs : Values) → values_in (with_first p o vs) ≡ with_present o (values_in vs)
  values-first p None vs = refl
  values-first p (Some v) vs = refl

  -- they are the values of the rows
  pub pushed-values : (rows : Positioned) → values_in (pushed_over a rows) ≡ values_over a.argument (forget rows)
  pushed-values [] = refl
  pushed-values (r ∷ rows) = values-first r.0 (of r.1) (pushed_over a rows) ∙ ap (with_present (of r.1)) (pushed-values rows)

-- the state of the values changes as they do
pub pushed-after : (change : RowChange) (a : Accumulation) (p : PosTree) (d : Row) (vs : Values) → state_after change a p d (array_state vs) ≡ array_state (repushed change a p d vs)
pushed-after Added a p d vs = refl
pushed-after Removed a p d vs = refl
