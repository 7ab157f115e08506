-- What a look-up holds after a change of its rows, and what it returns and counts for it.
use Rattle.std.specs.Prelude.{◌≡◌, List, length}
use Rattle.std.proofs.Common.{ap, subst, sym, ◌∙◌}
use Rattle.std.specs.BTreeSet.{BTreeSet}
use Rattle.dv_order.specs.Key.{KeyTree}
use Rattle.dv_gather.specs.declared.lookup.Lookup.{Lookup}
use Rattle.dv_change.specs.declared.input.Input.{Input}
use Rattle.dv_change.specs.declared.input.Input.TheVariants.{Left}
use Rattle.dv_change.specs.declared.change.Change.{Change}
use Rattle.dv_change.specs.declared.taking.Taken.{Taken}
use Rattle.dv_change.specs.Changes.{Positioned, at}
use Rattle.dv_change.specs.Inner.Changes.{alone}
use Rattle.dv_change.specs.Inner.Told.{ComesTo, diff_told, input_rows, told_along, with_old}
use Rattle.dv_change.specs.Inner.ToldLaws.{length-told}
use Rattle.dv_change.specs.Inputs.{left_after, others_after}
use Rattle.dv_change.specs.Work.{owed_by}
use Rattle.dv_join.specs.declared.operator.LookupOperator.{LookupOperator}
use Rattle.dv_join.specs.Inner.Placed.{looked_up_alone}
use Rattle.dv_join.specs.Inner.Taking.{HoldsAfterRow, TellsAfterRow}
use Rattle.dv_join.specs.Inner.Turning.{AreLocalKeys, HoldsJoin}
use Rattle.dv_join.specs.Placed.{looked_up_at}
use Rattle.dv_join.specs.Turning.{first_input}

-- the rows that an operator with this look-up returns
abbrev pub makes-by : Lookup → List Positioned → Positioned → Positioned
makes-by l others rows = looked_up_at l rows (first_input others)

module _ (o : LookupOperator) (input : Input) (taken : Taken) (is : input ≡ Left) (others : List Positioned) (left : Positioned) (change : Change) (held : HoldsJoin o others left) (comes : ComesTo input taken change others left) where
  abbrev makes : List Positioned → Positioned → Positioned
  makes = makes-by o.lookup

  told : taken ≡ with_old left change
  told = comes.told ∙ ap (λ i. with_old (input_rows i others left) change) is

  -- if the rows that it has returned are kept, the joined row for the old row is at its position
  pub left-kept : (made : Positioned) → made ≡ makes others left → alone taken.pos (at taken.pos made) ≡ looked_up_at o.lookup (alone taken.pos taken.old) (first_input others)
  left-kept made kept = looked_up_alone o.lookup (first_input others) made taken.pos taken.old left kept (ap (λ (t : Taken). at t.pos left) told ∙ sym (ap (λ (t : Taken). t.old) told))

  pub left-held : (keys : BTreeSet KeyTree) (then : LookupOperator) → HoldsAfterRow taken keys o then → AreLocalKeys o.lookup taken.old keys → HoldsJoin then (others_after input change others) (left_after input change left)
  left-held keys then holds own = subst (λ (i : Input). HoldsJoin then (others_after i change others) (left_after i change left)) (sym is) (holds others left change held comes.exact told own)

  -- if these are the joined rows for the old row
  module _ (before after : Positioned) (tells : TellsAfterRow o taken after) (made : before ≡ looked_up_at o.lookup (alone taken.pos taken.old) (first_input others)) where
    pub left-out : diff_told before after ≡ told_along (makes others left) (owed_by input change makes others left)
    left-out = tells before others left change held comes.exact told made ∙ sym (ap (λ i. told_along (makes others left) (owed_by i change makes others left)) is)

    pub left-counted : length (diff_told before after) ≡ length (owed_by input change makes others left)
    left-counted = ap length left-out ∙ length-told (makes others left) (owed_by input change makes others left)
