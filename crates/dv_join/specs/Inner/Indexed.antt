-- Rows by their keys in memory.
use Rattle.std.specs.Prelude.{◌≡◌, ◌&&◌, Bool, cond, not, List, [], Option, Some, None, filter, map}
use Rattle.std.specs.BTreeMap.{get}
use Rattle.std.specs.BTreeSet.{BTreeSet, contains}
use Rattle.std.specs.List.{list_any}
use Rattle.std.specs.Option.{unwrap_or}
use Rattle.dv_value.specs.Tree.{Field, Tree}
use Rattle.dv_order.specs.Key.{KeyTree, key_order}
use Rattle.dv_change.specs.Changes.{Positioned, forget}
use Rattle.dv_change.specs.Inner.Changes.{IsPositioned}
use Rattle.dv_change.specs.Inner.Ordered.{gone, put}
use Rattle.dv_change.specs.Positions.{PosTree}
use Rattle.dv_gather.specs.Joining.{as_value}
use Rattle.dv_join.specs.declared.index.RowsByKey.{RowsByKey}

-- the rows under a key
abbrev pub under : KeyTree → RowsByKey → Positioned
under k index = unwrap_or (get key_order index.under k) []

-- under each key are those of the rows that have it
abbrev pub IsJoinIndexOf : (KeyTree → List Field → Bool) → Positioned → RowsByKey → Type 0
IsJoinIndexOf has rows index = (k : KeyTree) → under k index ≡ filter (λ e. has k e.1) rows

-- whether a row has any of these keys
abbrev pub has_any : (KeyTree → List Field → Bool) → List KeyTree → List Field → Bool
has_any has keys d = list_any (λ k. has k d) keys

-- rows with the one at a position set, or without it
abbrev pub row_set : PosTree → Option (List Field) → Positioned → Positioned
row_set pos None rows = gone pos rows
row_set pos (Some row) rows = put pos row rows

-- the rows under a key after a row at a position is exchanged: the new row is set if it has the key; otherwise the old row is
-- removed if it had the key
abbrev pub moved_in_index : PosTree → Bool → Option (List Field) → Bool → Positioned → Positioned
moved_in_index pos had row has rows = cond has (row_set pos row rows) (cond had (gone pos rows) rows)

-- an index after a row at a position, under some keys, was replaced by another one, under others
abbrev pub ExchangedIn : PosTree → BTreeSet KeyTree → Option (List Field) → BTreeSet KeyTree → RowsByKey → RowsByKey → Type 0
ExchangedIn pos old_keys row new_keys old new = (k : KeyTree) → under k new ≡ moved_in_index pos (contains key_order old_keys k) row (contains key_order new_keys k) (under k old)

-- an index after the row at a position was removed under each of some keys that isn't one of the others
abbrev pub TakenOutOf : PosTree → BTreeSet KeyTree → BTreeSet KeyTree → RowsByKey → RowsByKey → Type 0
TakenOutOf pos keys others old new = (k : KeyTree) → under k new ≡ cond (contains key_order keys k && not (contains key_order others k)) (gone pos (under k old)) (under k old)

-- whatever rows are in the index, these are the ones that have any of the keys; and the same as values
abbrev pub AreRowsUnder : RowsByKey → List KeyTree → Positioned → Type 0
AreRowsUnder index keys all = (has : KeyTree → List Field → Bool) (rows : Positioned) → IsPositioned rows → IsJoinIndexOf has rows index → all ≡ filter (λ e. has_any has keys e.1) rows

abbrev pub AreValuesUnder : RowsByKey → List KeyTree → List Tree → Type 0
AreValuesUnder index keys values = (has : KeyTree → List Field → Bool) (rows : Positioned) → IsPositioned rows → IsJoinIndexOf has rows index → values ≡ map as_value (forget (filter (λ e. has_any has keys e.1) rows))
