-- What a look-up has to return for a change. For a change of its rows: the changes of the joined row for the changed row. For a
-- change of the list that it reads: the changes of the joined rows for the rows that the change touches.
use Rattle.std.specs.Prelude.{◌≡◌, ℕ, zero, suc, Bool, true, false, ◌||◌, cond, List, [], ◌∷◌, filter, Option, None, Some, refl}
use Rattle.std.proofs.Common.{ap, arith, sym, ◌∙◌, ◌⊎◌, inl, inr}
use Rattle.std.proofs.lemmas.Map.Entries.{option_filter}
use Rattle.std.specs.Cmp.{Equal-is}
use Rattle.std.specs.Option.{option_map}
use Rattle.std.specs.Ordering.{is_eq}
use Rattle.dv_value.specs.Tree.{Field}
use Rattle.dv_order.specs.Key.{KeyTree}
use Rattle.dv_gather.specs.declared.lookup.Lookup.{Lookup}
use Rattle.dv_gather.specs.Joining.{is_joined}
use Rattle.dv_gather.specs.Lookups.{joined_row}
use Rattle.dv_change.specs.declared.change.Change.{Change}
use Rattle.dv_change.specs.declared.input.Input.TheVariants.{Named}
use Rattle.dv_change.specs.Inputs.{HasInput, others_after}
use Rattle.dv_change.specs.Changes.{Positioned, at, forget, with_change}
use Rattle.dv_change.specs.Inner.Changes.{IsExactChange, IsPositioned, alone, position_changed, row_in}
use Rattle.dv_change.specs.Difference.{diff}
use Rattle.dv_change.specs.Inner.DiffLaws.{IsPartAt, at-alone, at-changed, diff-parts, exact-place, positioned-alone, positioned-changed, positioned-filter}
use Rattle.dv_change.specs.Positions.{PosTree, pos_order}
use Rattle.dv_change.specs.Inner.RowLaws.{at-like}
use Rattle.dv_change.specs.Inner.Told.{diff_told, input_rows, told_along}
use Rattle.dv_change.specs.Inner.ToldLaws.{along-diff, told-parts}
use Rattle.dv_join.specs.Inner.Indexed.{has_any}
use Rattle.dv_join.specs.Placed.{looked_up_at}
use Rattle.dv_join.specs.Inner.Placed.{at-looked_up, looked_up_ordered}
use Rattle.dv_join.specs.Turning.{first_input}
use Rattle.dv_join.specs.Inner.Turning.{has_foreign, has_local, if_any}
use Rattle.dv_join.proofs.Indexes.{is_one_of}
use Rattle.dv_join.proofs.Rows.{at-passing, passing-same}
use Rattle.dv_join.proofs.Sharing.{not-joined, or-left, or-right, same-joined}

-- ---- the list that it reads

-- the one list that there is
module _ (change : Change) (left : Positioned) where
  pub only-one : (i : ℕ) (others : List Positioned) → HasInput (Named i) others → others ≡ first_input others ∷ [] → (others_after (Named i) change others ≡ with_change (first_input others) change ∷ []) × (input_rows (Named i) others left ≡ first_input others)
  only-one i [] has one = absurd cc
  only-one zero (rows ∷ []) has one = (refl, refl)
  only-one (suc i) (rows ∷ []) has one = absurd (omega (arith, has))
  only-one i (rows ∷ more ∷ others) has one = absurd cc

-- ---- a change of the rows

module _ (l : Lookup) (rows foreign : Positioned) (change : Change) (are : IsPositioned rows) (exact : IsExactChange change) where
  abbrev made : Positioned → Positioned
  made some = looked_up_at l some foreign

  abbrev joined : List Field → List Field
  joined = joined_row l (forget foreign)

  left-part : (q : PosTree) (b : Bool) → is_eq (pos_order q (position_changed change)) ≡ b → IsPartAt (made rows) (made (with_change rows change)) (made (alone (position_changed change) (at (position_changed change) rows))) (made (alone (position_changed change) (row_in change))) q
  left-part q b e =
      let p = position_changed change in
      let old : at q (made (alone p (at p rows))) ≡ option_map joined (cond b (at p rows) None) = at-looked_up l foreign q (alone p (at p rows)) ∙ ap (option_map joined) (at-alone q p (at p rows) ∙ ap (λ b. cond b (at p rows) None) e) in
      let new : at q (made (alone p (row_in change))) ≡ option_map joined (cond b (row_in change) None) = at-looked_up l foreign q (alone p (row_in change)) ∙ ap (option_map joined) (at-alone q p (row_in change) ∙ ap (λ b. cond b (row_in change) None) e) in
      let after : at q (made (with_change rows change)) ≡ option_map joined (cond b (row_in change) (at q rows)) = at-looked_up l foreign q (with_change rows change) ∙ ap (option_map joined) (at-changed q rows change are ∙ ap (λ b. cond b (row_in change) (at q rows)) e) in
      by b e old new after
    where
      by : (b : Bool) → is_eq (pos_order q (position_changed change)) ≡ b
          → at q (made (alone (position_changed change) (at (position_changed change) rows))) ≡ option_map joined (cond b (at (position_changed change) rows) None)
          → at q (made (alone (position_changed change) (row_in change))) ≡ option_map joined (cond b (row_in change) None)
          → at q (made (with_change rows change)) ≡ option_map joined (cond b (row_in change) (at q rows))
          → IsPartAt (made rows) (made (with_change rows change)) (made (alone (position_changed change) (at (position_changed change) rows))) (made (alone (position_changed change) (row_in change))) q
      by true here old new after =
          inl (old ∙ ap (option_map joined) (sym (at-like q (position_changed change) ((Equal-is (pos_order q (position_changed change))).0 here) rows)) ∙ sym (at-looked_up l foreign q rows), new ∙ sym after)
      by false other old new after = inr (old, new, at-looked_up l foreign q rows ∙ sym after)

  pub left-owed : diff (made rows) (made (with_change rows change)) ≡ diff (made (alone (position_changed change) (at (position_changed change) rows))) (made (alone (position_changed change) (row_in change)))
  left-owed =
      let p = position_changed change in
      let place = exact-place change exact in
      diff-parts (made rows) (made (with_change rows change)) (made (alone p (at p rows))) (made (alone p (row_in change)))
      (looked_up_ordered l foreign rows are) (looked_up_ordered l foreign (with_change rows change) (positioned-changed rows change are exact)) (looked_up_ordered l foreign (alone p (at p rows)) (positioned-alone p (at p rows) place)) (looked_up_ordered l foreign (alone p (row_in change)) (positioned-alone p (row_in change) place))
      (λ q x. left-part q (is_eq (pos_order q p)) refl)

  pub left-told : told_along (made rows) (diff (made rows) (made (with_change rows change))) ≡ diff_told (made (alone (position_changed change) (at (position_changed change) rows))) (made (alone (position_changed change) (row_in change)))
  left-told =
      let p = position_changed change in
      let place = exact-place change exact in
      let now = positioned-changed rows change are exact in
      along-diff (made rows) (made (with_change rows change)) (looked_up_ordered l foreign rows are) (looked_up_ordered l foreign (with_change rows change) now)
      ∙ told-parts (made rows) (made (with_change rows change)) (made (alone p (at p rows))) (made (alone p (row_in change)))
      (looked_up_ordered l foreign rows are) (looked_up_ordered l foreign (with_change rows change) now) (looked_up_ordered l foreign (alone p (at p rows)) (positioned-alone p (at p rows) place)) (looked_up_ordered l foreign (alone p (row_in change)) (positioned-alone p (row_in change) place))
      (λ q x. left-part q (is_eq (pos_order q p)) refl)

-- ---- a change of the list that it reads

-- a row that isn't touched is joined neither with the old document nor with the new one
abbrev pub AreTouched : Lookup → (List Field → Bool) → Option (List Field) → Option (List Field) → Type 0
AreTouched l test old new = (d : List Field) → test d ≡ false → (if_any (is_joined l.local l.foreign d) old ≡ false) × (if_any (is_joined l.local l.foreign d) new ≡ false)

-- the rows that have a key of either document are touched
pub touched-by : (l : Lookup) (old new : Option (List Field)) (keys old_keys new_keys : List KeyTree) → ((k : KeyTree) → is_one_of keys k ≡ is_one_of old_keys k || is_one_of new_keys k)
    → ((k : KeyTree) → is_one_of old_keys k ≡ if_any (has_foreign l k) old) → ((k : KeyTree) → is_one_of new_keys k ≡ if_any (has_foreign l k) new) → AreTouched l (has_any (has_local l) keys) old new
touched-by l old new keys old_keys new_keys all old-own new-own = λ d other.
    (not-joined l d old keys (λ k has. all k ∙ or-left (is_one_of old_keys k) (is_one_of new_keys k) (old-own k ∙ has)) other, not-joined l d new keys (λ k has. all k ∙ or-right (is_one_of old_keys k) (is_one_of new_keys k) (new-own k ∙ has)) other)

module _ (l : Lookup) (rows foreign : Positioned) (change : Change) (test : List Field → Bool) (are : IsPositioned rows) (foreign-are : IsPositioned foreign) (exact : IsExactChange change) (touched : AreTouched l test (at (position_changed change) foreign) (row_in change)) where
  abbrev before : Positioned → Positioned
  before some = looked_up_at l some foreign

  abbrev after : Positioned → Positioned
  after some = looked_up_at l some (with_change foreign change)

  abbrev joined_before : List Field → List Field
  joined_before = joined_row l (forget foreign)

  abbrev joined_after : List Field → List Field
  joined_after = joined_row l (forget (with_change foreign change))

  abbrev some : Positioned
  some = filter (λ e. test e.1) rows

  stays : (d : List Field) → test d ≡ false → joined_before d ≡ joined_after d
  stays d other =
      let neither = touched d other in
      same-joined l d foreign (with_change foreign change) (sym (passing-same (is_joined l.local l.foreign d) foreign change foreign-are exact neither.0 neither.1))

  -- a row is touched, or stays as it is
  abbrev IsEither : Option (List Field) → Option (List Field) → Type 0
  IsEither o kept = (kept ≡ o) ⊎ ((kept ≡ None) × (option_map joined_before o ≡ option_map joined_after o))

  either : (o : Option (List Field)) → IsEither o (option_filter test o)
  either None = inl refl
  either (Some d) = by (test d) refl
    where
      by : (b : Bool) → test d ≡ b → IsEither (Some d) (cond b (Some d) None)
      by true touched = inl refl
      by false other = inr (refl, ap Some (stays d other))

  foreign-part : (q : PosTree) → IsEither (at q rows) (option_filter test (at q rows)) → IsPartAt (before rows) (after rows) (before some) (after some) q
  foreign-part q (inl kept) =
      let same : at q some ≡ at q rows = at-passing test q rows are ∙ kept in
      inl (at-looked_up l foreign q some ∙ ap (option_map joined_before) same ∙ sym (at-looked_up l foreign q rows), at-looked_up l (with_change foreign change) q some ∙ ap (option_map joined_after) same ∙ sym (at-looked_up l (with_change foreign change) q rows))
  foreign-part q (inr other) =
      let none : at q some ≡ None = at-passing test q rows are ∙ other.0 in
      inr (at-looked_up l foreign q some ∙ ap (option_map joined_before) none, at-looked_up l (with_change foreign change) q some ∙ ap (option_map joined_after) none, at-looked_up l foreign q rows ∙ other.1 ∙ sym (at-looked_up l (with_change foreign change) q rows))

  pub foreign-owed : diff (before rows) (after rows) ≡ diff (before some) (after some)
  foreign-owed =
      let some-are : IsPositioned some = positioned-filter (λ e. test e.1) rows are in
      diff-parts (before rows) (after rows) (before some) (after some) (looked_up_ordered l foreign rows are) (looked_up_ordered l (with_change foreign change) rows are) (looked_up_ordered l foreign some some-are) (looked_up_ordered l (with_change foreign change) some some-are)
      (λ q x. foreign-part q (either (at q rows)))

  pub foreign-told : told_along (before rows) (diff (before rows) (after rows)) ≡ diff_told (before some) (after some)
  foreign-told =
      let some-are : IsPositioned some = positioned-filter (λ e. test e.1) rows are in
      along-diff (before rows) (after rows) (looked_up_ordered l foreign rows are) (looked_up_ordered l (with_change foreign change) rows are)
      ∙ told-parts (before rows) (after rows) (before some) (after some) (looked_up_ordered l foreign rows are) (looked_up_ordered l (with_change foreign change) rows are) (looked_up_ordered l foreign some some-are) (looked_up_ordered l (with_change foreign change) some some-are)
      (λ q x. foreign-part q (either (at q rows)))
