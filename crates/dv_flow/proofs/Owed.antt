-- What a stage that computes its rows from each row separately has to return for a change: the changes of its rows for the changed
-- row alone.
use Rattle.std.specs.Prelude.{◌≡◌, Bool, true, false, cond, List, [], length, Option, None, refl}
use Rattle.std.proofs.Common.{ap, sym, ◌∙◌, inl, inr}
use Rattle.std.specs.declared.cmp.Ordering.TheVariants.{Equal}
use Rattle.std.specs.Cmp.{Equal-is, tied_itself}
use Rattle.std.specs.Ordering.{is_eq}
use Rattle.dv_value.specs.Tree.{Field}
use Rattle.dv_change.specs.declared.change.Change.{Change}
use Rattle.dv_change.specs.declared.input.Input.{Input}
use Rattle.dv_change.specs.declared.input.Input.TheVariants.{Left}
use Rattle.dv_change.specs.declared.taking.Taken.{Taken}
use Rattle.dv_change.specs.Changes.{Positioned, at, with_change}
use Rattle.dv_change.specs.Inner.Changes.{IsExactChange, IsPositioned, alone, position_changed, row_in}
use Rattle.dv_change.specs.Difference.{diff}
use Rattle.dv_change.specs.Inner.DiffLaws.{IsPartAt, at-alone, at-changed, diff-parts, exact-place, positioned-alone, positioned-changed}
use Rattle.dv_change.specs.Inner.PositionLaws.{pos_order_total}
use Rattle.dv_change.specs.Positions.{IsExact, PosTree, pos_order}
use Rattle.dv_change.specs.Inner.Fed.{AreKept}
use Rattle.dv_change.specs.Inner.Told.{ComesTo, diff_told, input_rows, told_along, with_old}
use Rattle.dv_change.specs.Inner.ToldLaws.{along-diff, length-told, told-parts}
use Rattle.dv_change.specs.Work.{owed_by}
use Rattle.dv_flow.specs.Inner.Rows.{TellsApart}
use Rattle.dv_flow.specs.declared.by_row.RowsApart.{RowsApart}

-- a change comes with the row that was at its position
at-told : (taken : Taken) (rows : Positioned) (change : Change) → taken ≡ with_old rows change → at taken.pos rows ≡ taken.old
at-told taken rows change told = ap (λ (t : Taken). at t.pos rows) told ∙ sym (ap (λ (t : Taken). t.old) told)

module _ (makes : Positioned → Positioned) (origin : PosTree → PosTree)
    (ordered : (rows : Positioned) → IsPositioned rows → IsPositioned (makes rows))
    (empty : makes [] ≡ [])
    (exact : (q : PosTree) → IsExact q → IsExact (origin q))
    (single : (rows : Positioned) (q p : PosTree) → IsPositioned rows → IsExact q → IsExact p → pos_order (origin q) p ≡ Equal → at q (makes rows) ≡ at q (makes (alone p (at p rows)))) where
  -- the row at a position is computed from the row at its origin
  at-own : (rows : Positioned) (q : PosTree) → IsPositioned rows → IsExact q → at q (makes rows) ≡ at q (makes (alone (origin q) (at (origin q) rows)))
  at-own rows q are x = single rows q (origin q) are x (exact q x) (tied_itself pos_order_total (origin q))

  -- and from no other row
  at-other : (p : PosTree) (row : Option (List Field)) (q : PosTree) → IsExact p → IsExact q → is_eq (pos_order (origin q) p) ≡ false → at q (makes (alone p row)) ≡ None
  at-other p row q px x other =
      at-own (alone p row) q (positioned-alone p row px) x
      ∙ ap (λ r. at q (makes (alone (origin q) r))) (at-alone (origin q) p row ∙ ap (λ b. cond b row None) other)
      ∙ ap (at q) empty

  module _ (rows : Positioned) (change : Change) (are : IsPositioned rows) (changes : IsExactChange change) where
    after : IsPositioned (with_change rows change)
    after = positioned-changed rows change are changes

    part : (q : PosTree) (own : Bool) → IsExact q → is_eq (pos_order (origin q) (position_changed change)) ≡ own
        → IsPartAt (makes rows) (makes (with_change rows change)) (makes (alone (position_changed change) (at (position_changed change) rows))) (makes (alone (position_changed change) (row_in change))) q
    part q true x own =
        let p = position_changed change in
        let place = exact-place change changes in
        let beside = (Equal-is (pos_order (origin q) p)).0 own in
        let there : at p (with_change rows change) ≡ row_in change = at-changed p rows change are ∙ ap (λ r. cond (is_eq r) (row_in change) (at p rows)) (tied_itself pos_order_total p) in
        inl (sym (single rows q p are x place beside), sym (single (with_change rows change) q p after x place beside ∙ ap (λ r. at q (makes (alone p r))) there))
    part q false x other =
        let p = position_changed change in
        let place = exact-place change changes in
        let same : at (origin q) (with_change rows change) ≡ at (origin q) rows = at-changed (origin q) rows change are ∙ ap (λ b. cond b (row_in change) (at (origin q) rows)) other in
        inr (
          at-other p (at p rows) q place x other,
          at-other p (row_in change) q place x other,
          at-own rows q are x ∙ ap (λ r. at q (makes (alone (origin q) r))) (sym same) ∙ sym (at-own (with_change rows change) q after x),
        )

    -- what it has to return for a change
    pub row-owed : diff (makes rows) (makes (with_change rows change)) ≡ diff (makes (alone (position_changed change) (at (position_changed change) rows))) (makes (alone (position_changed change) (row_in change)))
    row-owed =
        let p = position_changed change in
        let place = exact-place change changes in
        diff-parts (makes rows) (makes (with_change rows change)) (makes (alone p (at p rows))) (makes (alone p (row_in change))) (ordered rows are) (ordered (with_change rows change) after) (ordered (alone p (at p rows)) (positioned-alone p (at p rows) place)) (ordered (alone p (row_in change)) (positioned-alone p (row_in change) place)) (λ q x.
        part q (is_eq (pos_order (origin q) p)) x refl)

    -- the same, with the rows that were there
    pub row-told : told_along (makes rows) (diff (makes rows) (makes (with_change rows change))) ≡ diff_told (makes (alone (position_changed change) (at (position_changed change) rows))) (makes (alone (position_changed change) (row_in change)))
    row-told =
        let p = position_changed change in
        let place = exact-place change changes in
        along-diff (makes rows) (makes (with_change rows change)) (ordered rows are) (ordered (with_change rows change) after)
        ∙ told-parts (makes rows) (makes (with_change rows change)) (makes (alone p (at p rows))) (makes (alone p (row_in change))) (ordered rows are) (ordered (with_change rows change) after) (ordered (alone p (at p rows)) (positioned-alone p (at p rows) place)) (ordered (alone p (row_in change)) (positioned-alone p (row_in change) place)) (λ q x.
        part q (is_eq (pos_order (origin q) p)) x refl)

    -- and how many changes these are
    pub row-count : length (diff (makes rows) (makes (with_change rows change))) ≡ length (diff_told (makes (alone (position_changed change) (at (position_changed change) rows))) (makes (alone (position_changed change) (row_in change))))
    row-count = sym (length-told (makes rows) (diff (makes rows) (makes (with_change rows change)))) ∙ ap length row-told

    -- what it returns and counts for a change, if two lists have the same difference as its rows for the old and the new row
    module _ (input : Input) (is : input ≡ Left) (taken : Taken) (others : List Positioned) (comes : ComesTo input taken change others rows) (kept : Option Positioned) (both : RowsApart) (apart : TellsApart makes kept taken both) (made : AreKept kept (makes rows)) where
      told : taken ≡ with_old rows change
      told = comes.told ∙ ap (λ i. with_old (input_rows i others rows) change) is

      told-by : diff_told both.old both.new ≡ diff_told (makes (alone (position_changed change) (at (position_changed change) rows))) (makes (alone (position_changed change) (row_in change)))
      told-by = apart rows are made (at-told taken rows change told) ∙ (λ i. diff_told (makes (alone (told i).pos (told i).old)) (makes (alone (told i).pos (told i).new)))

      abbrev pub owed : List Change
      owed = owed_by input change (λ others' rows'. makes rows') others rows

      all-owed : diff (makes rows) (makes (with_change rows change)) ≡ owed
      all-owed = sym (ap (λ i. owed_by i change (λ others' rows'. makes rows') others rows) is)

      pub out-told : diff_told both.old both.new ≡ told_along (makes rows) owed
      out-told = told-by ∙ sym row-told ∙ ap (told_along (makes rows)) all-owed

      pub out-counted : length (diff_told both.old both.new) ≡ length owed
      out-counted = ap length told-by ∙ sym row-count ∙ ap length all-owed
