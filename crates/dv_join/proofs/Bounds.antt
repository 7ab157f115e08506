-- Without positions a look-up is that of a pipeline, and a change changes few of the rows that it returns.
use Rattle.std.specs.Prelude.{◌≡◌, ◌≤◌, Bool, true, false, cond, List, [], ◌∷◌, length, map, filter, Option, None, Some, is_none, refl}
use Rattle.std.proofs.Common.{ap, arith, sym, ◌∙◌}
use Rattle.std.proofs.lemmas.List.{length-append, length-map}
use Rattle.std.proofs.lemmas.Map.Entries.{option_filter}
use Rattle.std.specs.Option.{option_map}
use Rattle.std.specs.Ordering.{is_eq}
use Rattle.std.proofs.lemmas.Bool.{or_parts}
use Rattle.dv_value.specs.Tree.{Field}
use Rattle.dv_gather.specs.declared.lookup.Lookup.{Lookup}
use Rattle.dv_gather.specs.Joining.{is_joined}
use Rattle.dv_gather.specs.Lookups.{joined_row, looked_up}
use Rattle.dv_change.specs.declared.change.Change.{Change}
use Rattle.dv_change.specs.declared.change.Change.TheVariants.{Gone}
use Rattle.dv_change.specs.Changes.{Positioned, at, forget, with_change}
use Rattle.dv_change.specs.Inner.Changes.{IsExactChange, IsPositioned, alone, position_changed, row_in}
use Rattle.dv_change.specs.Difference.{diff, gones, puts}
use Rattle.dv_change.specs.Inner.DiffLaws.{at-filter, exact-place, positioned-alone, positioned-filter, puts-length, diff-length}
use Rattle.dv_change.specs.Positions.{IsExact, PosTree, pos_order}
use Rattle.dv_change.specs.Inner.RowLaws.{at-like, positioned-none, same_rows}
use Rattle.dv_join.specs.Inner.Bounds.{is_touched, rows_touched}
use Rattle.dv_join.specs.Placed.{looked_up_at}
use Rattle.dv_join.specs.Inner.Placed.{at-looked_up, looked_up_ordered}
use Rattle.dv_join.specs.Inner.Turning.{if_any}
use Rattle.dv_join.proofs.Owed.{foreign-owed, left-owed}

pub lookup-forgets : (l : Lookup) (rows foreign : Positioned) → forget (looked_up_at l rows foreign) ≡ looked_up l (forget rows) (forget foreign)
unfolding looked_up
lookup-forgets l [] foreign = refl
lookup-forgets l (e ∷ rows) foreign = ap (λ ds. joined_row l (forget foreign) e.1 ∷ ds) (lookup-forgets l rows foreign)

-- ---- differences

-- if rows are at the same positions, none is removed
diff-staying : (old new : Positioned) → IsPositioned old → ((q : PosTree) → is_none (at q new) ≡ is_none (at q old)) → length (diff old new) ≤ length new
diff-staying old new are same = omega (arith, length-append (gones old new) (puts old new), ap length none, puts-length old new)
  where
    never : (o : Option (List Field)) → option_filter (λ v. is_none o) o ≡ None
    never None = refl
    never (Some v) = refl

    left : filter (λ e. is_none (at e.0 new)) old ≡ []
    left = same_rows (filter (λ e. is_none (at e.0 new)) old) [] (positioned-filter (λ e. is_none (at e.0 new)) old are) positioned-none (λ q exact.
        at-filter (λ e. is_none (at e.0 new)) q (λ v. is_none (at q new)) (λ p v beside. ap is_none (sym (at-like q p beside new))) old are
        ∙ ap (λ b. option_filter (λ v. b) (at q old)) (same q)
        ∙ never (at q old))

    none : gones old new ≡ []
    none = ap (map (λ (e : PosTree × List Field). Gone e.0)) left

-- ---- bounds

module _ (l : Lookup) (rows foreign : Positioned) (change : Change) where
  at-one : (p : PosTree) (old new : Option (List Field)) → IsExact p → length (diff (looked_up_at l (alone p old) foreign) (looked_up_at l (alone p new) foreign)) ≤ 1
  at-one p None None exact = omega arith
  at-one p None (Some w) exact = diff-length [] ((p, joined_row l (forget foreign) w) ∷ [])
  at-one p (Some v) None exact = diff-length ((p, joined_row l (forget foreign) v) ∷ []) []
  at-one p (Some v) (Some w) exact =
      diff-staying ((p, joined_row l (forget foreign) v) ∷ []) ((p, joined_row l (forget foreign) w) ∷ []) (positioned-alone p (Some (joined_row l (forget foreign) v)) exact) (λ q. by (is_eq (pos_order q p)))
    where
      by : (b : Bool) → is_none (cond b (Some (joined_row l (forget foreign) w)) None) ≡ is_none (cond b (Some (joined_row l (forget foreign) v)) None)
      by true = refl
      by false = refl

  pub left-bound : IsPositioned rows → IsExactChange change → length (diff (looked_up_at l rows foreign) (looked_up_at l (with_change rows change) foreign)) ≤ 1
  left-bound are exact = rw (left-owed l rows foreign change are exact) (at-one (position_changed change) (at (position_changed change) rows) (row_in change) (exact-place change exact))

  pub foreign-bound : IsPositioned rows → IsPositioned foreign → IsExactChange change → length (diff (looked_up_at l rows foreign) (looked_up_at l rows (with_change foreign change))) ≤ rows_touched l (at (position_changed change) foreign) (row_in change) rows
  foreign-bound are foreign-are exact =
      let old = at (position_changed change) foreign in
      let new = row_in change in
      let some = filter (λ (e : PosTree × List Field). is_touched l old new e.1) rows in
      let after = with_change foreign change in
      let owed = foreign-owed l rows foreign change (is_touched l old new) are foreign-are exact (λ d other. or_parts (if_any (is_joined l.local l.foreign d) old) (if_any (is_joined l.local l.foreign d) new) other) in
      let some-are : IsPositioned some = positioned-filter (λ e. is_touched l old new e.1) rows are in
      let few = diff-staying (looked_up_at l some foreign) (looked_up_at l some after) (looked_up_ordered l foreign some some-are) (λ q. ap is_none (at-looked_up l after q some) ∙ staying (joined_row l (forget after)) (joined_row l (forget foreign)) (at q some) ∙ sym (ap is_none (at-looked_up l foreign q some))) in
      omega (arith, ap length owed, few, length-map {B = PosTree × List Field} some (λ e. (e.0, joined_row l (forget after) e.1)))
    where
      staying : (f g : List Field → List Field) (o : Option (List Field)) → is_none (option_map f o) ≡ is_none (option_map g o)
      staying f g None = refl
      staying f g (Some v) = refl
