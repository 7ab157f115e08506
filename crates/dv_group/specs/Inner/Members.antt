-- Rows by their keys, and the rows of the groups of some keys: definitions that bodies use.
use Rattle.std.specs.Prelude.{◌≡◌, Bool, false, List, [], ◌∷◌, Option, Some, None, cond, filter, fold, ⊤}
use Rattle.std.specs.List.{AllByRecursion}
use Rattle.std.specs.Option.{option_map}
use Rattle.std.specs.Ordering.{is_eq}
use Rattle.std.specs.Map.{lookup}
use Rattle.std.specs.BTreeMap.{is_at}
use Rattle.dv_order.specs.Order.{canon}
use Rattle.dv_order.specs.Key.{KeyTree, key_order, value}
use Rattle.dv_row.specs.Row.{Row}
use Rattle.dv_change.specs.declared.position.Part.TheVariants.{Up}
use Rattle.dv_change.specs.declared.taking.Taken.{Taken}
use Rattle.dv_change.specs.Changes.{Positioned, forget}
use Rattle.dv_change.specs.Inner.Changes.{IsPositioned, alone}
use Rattle.dv_change.specs.Inner.Ordered.{gone, put}
use Rattle.dv_change.specs.Inner.Told.{diff_told}
use Rattle.dv_change.specs.Positions.{PosTree}
use Rattle.dv_gather.specs.Grouping.{Grouping, key_in, row_shown}
use Rattle.dv_group.specs.declared.live_group.LiveGroup.{LiveGroup}
use Rattle.dv_group.specs.declared.transition.Transition.{Transition}
use Rattle.dv_group.specs.declared.transition.Transitions.{Transitions}
use Rattle.dv_group.specs.declared.transition.Transitions.TheVariants.{One, Several}
use Rattle.dv_group.specs.declared.transition.RowsWanted.{RowsWanted}
use Rattle.dv_group.specs.declared.transition.RowsWanted.TheVariants.{Unwanted, Wanted}
use Rattle.dv_group.specs.Inner.SumBounds.{IsGroupState}
use Rattle.dv_group.specs.Placed.{grouped_at}

-- the key of a row
abbrev pub row_key : Grouping → Row → KeyTree
row_key g d = value (canon (key_in g d))

-- whether a row has a key
abbrev pub row_has_key : Grouping → KeyTree → Row → Bool
row_has_key g k d = is_eq (key_order k (row_key g d))

-- the rows that have a key
abbrev pub rows_with : Grouping → KeyTree → Positioned → Positioned
rows_with g k rows = filter (λ e. row_has_key g k e.1) rows

-- groups under keys
abbrev pub LiveGroups : Type 0
LiveGroups = List (KeyTree × LiveGroup)

-- the rows of a group, if there is one
abbrev pub rows_in : Option LiveGroup → Positioned
rows_in None = []
rows_in (Some live) = live.state.members

-- the rows under a key
abbrev pub group_members : KeyTree → LiveGroups → Positioned
group_members k es = rows_in (lookup (is_at (key_order k)) es)

-- a row that was computed is that of a group of these rows
abbrev pub IsRowIfMade : Grouping → Positioned → Option Row → Type 0
IsRowIfMade g rows None = ⊤
IsRowIfMade g rows (Some row) = Some row ≡ row_shown g (forget rows)

-- a group is sound, and so is its row
pub record IsLiveGroup (g : Grouping) (live : LiveGroup) : Type 0 where
  pub state : IsGroupState g.fields live.state
  pub row : IsRowIfMade g live.state.members live.row

-- each group is sound
abbrev pub AreLiveGroups : Grouping → LiveGroups → Type 0
AreLiveGroups g es = AllByRecursion (λ e. IsLiveGroup g e.1) es

-- under each key are the rows that have it
abbrev pub AreMembers : Grouping → (KeyTree → Positioned) → Positioned → Type 0
AreMembers g under rows = (k : KeyTree) → under k ≡ rows_with g k rows

-- whether there is a key, and it is equal to k
abbrev pub is_key : KeyTree → Option KeyTree → Bool
is_key k None = false
is_key k (Some l) = is_eq (key_order k l)

-- whether there are two keys, and they are equal
abbrev pub are_one : Option KeyTree → Option KeyTree → Bool
are_one None other = false
are_one (Some k) other = is_key k other

-- rows with one more, if there is one
abbrev pub put_some : PosTree → Option Row → Positioned → Positioned
put_some pos None rows = rows
put_some pos (Some d) rows = put pos d rows

-- rows with this one at a position, or with none there
abbrev pub set_at : PosTree → Option Row → Positioned → Positioned
set_at pos None rows = gone pos rows
set_at pos (Some d) rows = put pos d rows

-- rows with that of the group of a key, if there is a key and the group has rows; `under` has the rows under each key
abbrev pub with_shown : Grouping → (KeyTree → Positioned) → Option KeyTree → Positioned → Positioned
with_shown g under None rows = rows
with_shown g under (Some k) rows = put_some (Up k ∷ []) (row_shown g (forget (under k))) rows

-- the rows of the groups of two keys
abbrev pub shown_of : Grouping → (KeyTree → Positioned) → Option KeyTree → Option KeyTree → Positioned
shown_of g under key other = with_shown g under other (with_shown g under key [])

-- the rows under k after a row is removed from a position under one key, and one is added there under another
abbrev pub moved : PosTree → Option KeyTree → Option KeyTree → Option Row → KeyTree → Positioned → Positioned
moved pos key other new k rows = cond (is_key k other) (set_at pos new (cond (is_key k key) (gone pos rows) rows)) (cond (is_key k key) (gone pos rows) rows)

-- the key of a row, if there is one
abbrev pub own_key : Grouping → Option Row → Option KeyTree
own_key g row = option_map (row_key g) row

-- the rows under k after a change, and after several, one after the other
abbrev pub moved_as : Grouping → KeyTree → Positioned → Taken → Positioned
moved_as g k rows taken = moved taken.pos (own_key g taken.old) (own_key g taken.new) taken.new k rows

abbrev pub moved_all : Grouping → KeyTree → Positioned → List Taken → Positioned
moved_all g k rows all = fold (moved_as g k) rows all

-- the rows of the groups from which a change removes a row, or to which it adds one
abbrev pub shown_as : Grouping → LiveGroups → Taken → Positioned
shown_as g es taken = shown_of g (λ k. group_members k es) (own_key g taken.old) (own_key g taken.new)

-- the changes of these rows, from the groups before a change to those after it
abbrev pub changes_shown : Grouping → LiveGroups → LiveGroups → Taken → List Taken
changes_shown g old new taken = diff_told (shown_as g old taken) (shown_as g new taken)

-- the groups after a change
abbrev pub FollowTaken : Grouping → Taken → LiveGroups → LiveGroups → Type 0
FollowTaken g taken old new = (k : KeyTree) → group_members k new ≡ moved_as g k (group_members k old) taken

-- the groups after the row at a position in the group of a key, if there is a key, became this one, or none
abbrev pub SetInGroup : Option KeyTree → PosTree → Option Row → LiveGroups → LiveGroups → Type 0
SetInGroup key pos row old new = (k : KeyTree) → group_members k new ≡ cond (is_key k key) (set_at pos row (group_members k old)) (group_members k old)

-- whatever rows the groups have taken in, these are the rows of the groups
abbrev pub AreGroupRows : Grouping → LiveGroups → Positioned → Type 0
AreGroupRows g es rows = (left : Positioned) → IsPositioned left → AreMembers g (λ k. group_members k es) left → rows ≡ grouped_at g left

-- ---- the rows of groups before a change and after it

-- the row of a group of these rows, if it is wanted
abbrev pub IsShownIfWanted : RowsWanted → Grouping → Positioned → Option Row → Type 0
IsShownIfWanted Unwanted g rows row = row ≡ None
IsShownIfWanted (Wanted lender) g rows row = row ≡ row_shown g (forget rows)

-- a row that is right for the second wish is right for the first one, too
abbrev pub ShowAlike : RowsWanted → RowsWanted → Type 0
ShowAlike wish other = (g : Grouping) (rows : Positioned) (row : Option Row) → IsShownIfWanted other g rows row → IsShownIfWanted wish g rows row

-- the rows of a group before a change of its rows, and after it
abbrev pub IsTransition : RowsWanted → Grouping → Positioned → Positioned → Transition → Type 0
IsTransition wish g was now transition = IsShownIfWanted wish g was transition.before × IsShownIfWanted wish g now transition.after

-- the same for the group of a key, if there is a key
abbrev pub IsTransitionAt : RowsWanted → Grouping → (KeyTree → Positioned) → (KeyTree → Positioned) → Option KeyTree → Transition → Type 0
IsTransitionAt wish g was now None transition = ⊤
IsTransitionAt wish g was now (Some k) transition = IsTransition wish g (was k) (now k) transition

-- rows with the row of a key, if there are both
abbrev pub with_row : Option KeyTree → Option Row → Positioned → Positioned
with_row None row rows = rows
with_row (Some k) row rows = put_some (Up k ∷ []) row rows

-- the rows before a change, and after it
abbrev pub rows_before : Transitions → Positioned
rows_before (One place transition) = alone place transition.before
rows_before (Several before after) = before

abbrev pub rows_after : Transitions → Positioned
rows_after (One place transition) = alone place transition.after
rows_after (Several before after) = after

-- the rows of the groups of two keys before a change and after it, if they are wanted
abbrev pub AreTransitions : RowsWanted → Grouping → (KeyTree → Positioned) → (KeyTree → Positioned) → Option KeyTree → Option KeyTree → Transitions → Type 0
AreTransitions Unwanted g was now key other transitions = ⊤
AreTransitions (Wanted lender) g was now key other transitions = (rows_before transitions ≡ shown_of g was key other) × (rows_after transitions ≡ shown_of g now key other)

-- the same for groups before a change and after it: for a key, for two keys, and for the keys of a change's two rows
abbrev pub IsTransitionOfKey : RowsWanted → Grouping → LiveGroups → LiveGroups → Option KeyTree → Transition → Type 0
IsTransitionOfKey wish g old new key transition = IsTransitionAt wish g (λ k. group_members k old) (λ k. group_members k new) key transition

abbrev pub AreTransitionsOfKeys : RowsWanted → Grouping → LiveGroups → LiveGroups → Option KeyTree → Option KeyTree → Transitions → Type 0
AreTransitionsOfKeys wish g old new key other transitions = AreTransitions wish g (λ k. group_members k old) (λ k. group_members k new) key other transitions

abbrev pub AreTransitionsOfTaken : RowsWanted → Grouping → LiveGroups → LiveGroups → Taken → Transitions → Type 0
AreTransitionsOfTaken wish g old new taken transitions = AreTransitionsOfKeys wish g old new (own_key g taken.old) (own_key g taken.new) transitions
