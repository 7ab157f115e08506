-- The rows that are shown for the groups of two keys.
use Rattle.std.specs.Prelude.{◌≡◌, true, false, cond, [], ◌∷◌, Option, None, Some, refl}
use Rattle.std.proofs.Common.{ap, sym, ◌∙◌}
use Rattle.dv_order.specs.Key.{KeyTree}
use Rattle.dv_order.specs.Inner.KeyLaws.{equal-back}
use Rattle.dv_row.specs.Row.{Row}
use Rattle.dv_change.specs.declared.position.Part.TheVariants.{Up}
use Rattle.dv_change.specs.Changes.{Positioned, forget}
use Rattle.dv_change.specs.Inner.Ordered.{gone}
use Rattle.dv_change.specs.Positions.{PosTree}
use Rattle.dv_gather.specs.Grouping.{Grouping, row_shown}
use Rattle.dv_group.specs.declared.transition.Transition.{Transition}
use Rattle.dv_group.specs.declared.transition.Transitions.{Transitions}
use Rattle.dv_group.specs.declared.transition.RowsWanted.{RowsWanted}
use Rattle.dv_group.specs.declared.transition.RowsWanted.TheVariants.{Unwanted, Wanted}
use Rattle.dv_group.specs.Inner.Members.{AreTransitions, IsTransitionAt, LiveGroups, are_one, group_members, is_key, put_some, rows_after, rows_before, set_at, with_row, with_shown}
use Rattle.dv_group.proofs.Under.{shown-once}

-- if two keys aren't equal, neither is equal to the other
other-apart : (key other : Option KeyTree) → are_one key other ≡ false → (l : KeyTree) → other ≡ Some l → is_key l key ≡ false
other-apart None other apart l is = refl
other-apart (Some k) other apart l is = equal-back l k ∙ ap (is_key k) (sym is) ∙ apart

key-apart : (key other : Option KeyTree) → are_one key other ≡ false → (k : KeyTree) → key ≡ Some k → is_key k other ≡ false
key-apart key other apart k is = ap (λ o. are_one o other) (sym is) ∙ apart

module _ (g : Grouping) where
  before-shown : (lender : _) (was now : KeyTree → Positioned) (key : Option KeyTree) (transition : Transition) (rows : Positioned) → IsTransitionAt (Wanted lender) g was now key transition → with_row key transition.before rows ≡ with_shown g was key rows
  before-shown lender was now None transition rows shown = refl
  before-shown lender was now (Some k) transition rows shown = ap (λ r. put_some (Up k ∷ []) r rows) shown.0

  after-shown : (lender : _) (was now : KeyTree → Positioned) (key : Option KeyTree) (transition : Transition) (rows : Positioned) → IsTransitionAt (Wanted lender) g was now key transition → with_row key transition.after rows ≡ with_shown g now key rows
  after-shown lender was now None transition rows shown = refl
  after-shown lender was now (Some k) transition rows shown = ap (λ r. put_some (Up k ∷ []) r rows) shown.1

  shown-like : (was now : KeyTree → Positioned) (key : Option KeyTree) (rows : Positioned) → ((k : KeyTree) → key ≡ Some k → was k ≡ now k) → with_shown g was key rows ≡ with_shown g now key rows
  shown-like was now None rows same = refl
  shown-like was now (Some k) rows same = ap (λ (es : Positioned). put_some (Up k ∷ []) (row_shown g (forget es)) rows) (same k refl)

  -- if the keys are equal, the rows of one group
  pub one-shown : (wish : RowsWanted) (es fs : LiveGroups) (key other : Option KeyTree) (transition : Transition) (transitions : Transitions) → are_one key other ≡ true
      → IsTransitionAt wish g (λ k. group_members k es) (λ k. group_members k fs) key transition
      → rows_before transitions ≡ with_row key transition.before [] → rows_after transitions ≡ with_row key transition.after []
      → AreTransitions wish g (λ k. group_members k es) (λ k. group_members k fs) key other transitions
  one-shown Unwanted es fs key other transition transitions one shown before after = tt
  one-shown (Wanted lender) es fs key other transition transitions one shown before after =
      let was : KeyTree → Positioned = λ k. group_members k es in
      let now : KeyTree → Positioned = λ k. group_members k fs in
      (before ∙ before-shown lender was now key transition [] shown ∙ shown-once g es key other one, after ∙ after-shown lender was now key transition [] shown ∙ shown-once g fs key other one)

  -- if they aren't, the rows of one group after the other
  module _ (es ms fs : LiveGroups) (pos : PosTree) (key other : Option KeyTree) (new : Option Row) (apart : are_one key other ≡ false)
      (left : (k : KeyTree) → group_members k ms ≡ cond (is_key k key) (gone pos (group_members k es)) (group_members k es))
      (added : (k : KeyTree) → group_members k fs ≡ cond (is_key k other) (set_at pos new (group_members k ms)) (group_members k ms)) where
    abbrev was : KeyTree → Positioned
    was k = group_members k es

    abbrev between : KeyTree → Positioned
    between k = group_members k ms

    abbrev now : KeyTree → Positioned
    now k = group_members k fs

    was-between : (l : KeyTree) → other ≡ Some l → between l ≡ was l
    was-between l is = left l ∙ ap (λ b. cond b (gone pos (was l)) (was l)) (other-apart key other apart l is)

    still-now : (k : KeyTree) → key ≡ Some k → between k ≡ now k
    still-now k is = sym (added k ∙ ap (λ b. cond b (set_at pos new (between k)) (between k)) (key-apart key other apart k is))

    pub two-shown : (wish : RowsWanted) (goes comes : Transition) (both : Transitions) → IsTransitionAt wish g was between key goes → IsTransitionAt wish g between now other comes
        → rows_before both ≡ with_row other comes.before (with_row key goes.before []) → rows_after both ≡ with_row other comes.after (with_row key goes.after [])
        → AreTransitions wish g was now key other both
    two-shown Unwanted goes comes both goes_shown comes_shown before after = tt
    two-shown (Wanted lender) goes comes both goes_shown comes_shown before after = (
      before
          ∙ before-shown lender between now other comes (with_row key goes.before []) comes_shown
          ∙ shown-like between was other (with_row key goes.before []) was-between
          ∙ ap (with_shown g was other) (before-shown lender was between key goes [] goes_shown),
      after
          ∙ after-shown lender between now other comes (with_row key goes.after []) comes_shown
          ∙ ap (with_shown g now other) (after-shown lender was between key goes [] goes_shown ∙ shown-like between now key [] still-now),
    )
