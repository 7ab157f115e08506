-- What a look-up takes in and returns for a change of its rows, or of the documents with which it joins them.
use Rattle.std.specs.Prelude.{◌≡◌, List, [], ◌∷◌}
use Rattle.std.specs.BTreeSet.{BTreeSet}
use Rattle.dv_order.specs.Key.{KeyTree}
use Rattle.dv_change.specs.declared.change.Change.{Change}
use Rattle.dv_change.specs.declared.taking.Taken.{Taken}
use Rattle.dv_change.specs.Changes.{Positioned, with_change}
use Rattle.dv_change.specs.Difference.{diff}
use Rattle.dv_change.specs.Inner.Changes.{IsExactChange, alone}
use Rattle.dv_change.specs.Inner.Told.{diff_told, told_along, with_old}
use Rattle.dv_join.specs.declared.operator.LookupOperator.{LookupOperator}
use Rattle.dv_join.specs.Inner.Turning.{AreLocalKeys, HoldsJoin}
use Rattle.dv_join.specs.Placed.{looked_up_at}
use Rattle.dv_join.specs.Turning.{first_input}

-- whatever it held, it then holds the rows after the change, if these are the keys of the row that was there
abbrev pub HoldsAfterRow : Taken → BTreeSet KeyTree → LookupOperator → LookupOperator → Type 0
HoldsAfterRow taken keys old new = (others : List Positioned) (left : Positioned) (change : Change) → HoldsJoin old others left → IsExactChange change → taken ≡ with_old left change → AreLocalKeys old.lookup taken.old keys → HoldsJoin new others (with_change left change)

-- the same for a change of the documents
abbrev pub HoldsAfterDocument : Taken → LookupOperator → LookupOperator → Type 0
HoldsAfterDocument taken old new = (others : List Positioned) (left : Positioned) (change : Change) → HoldsJoin old others left → IsExactChange change → taken ≡ with_old (first_input others) change → HoldsJoin new (with_change (first_input others) change ∷ []) left

-- the difference from the joined row for the old row to these rows is that of all joined rows, for a change of the rows
abbrev pub TellsAfterRow : LookupOperator → Taken → Positioned → Type 0
TellsAfterRow old taken after = (before : Positioned) (others : List Positioned) (left : Positioned) (change : Change) → HoldsJoin old others left → IsExactChange change → taken ≡ with_old left change → before ≡ looked_up_at old.lookup (alone taken.pos taken.old) (first_input others) →
    diff_told before after ≡ told_along (looked_up_at old.lookup left (first_input others)) (diff (looked_up_at old.lookup left (first_input others)) (looked_up_at old.lookup (with_change left change) (first_input others)))

-- the difference of two lists is that of all joined rows, for a change of the documents
abbrev pub TellsAfterDocument : LookupOperator → Taken → Positioned → Positioned → Type 0
TellsAfterDocument old taken before after = (others : List Positioned) (left : Positioned) (change : Change) → HoldsJoin old others left → IsExactChange change → taken ≡ with_old (first_input others) change →
    diff_told before after ≡ told_along (looked_up_at old.lookup left (first_input others)) (diff (looked_up_at old.lookup left (first_input others)) (looked_up_at old.lookup left (with_change (first_input others) change)))
