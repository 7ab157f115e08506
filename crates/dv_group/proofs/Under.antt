-- The rows under each key, when the rows under one key change.
use Rattle.std.specs.Prelude.{◌≡◌, Bool, true, false, cond, List, [], ◌∷◌, Option, None, Some, slice_get, refl}
use Rattle.std.proofs.Common.{ap, subst, sym, ◌∙◌}
use Rattle.std.specs.declared.cmp.Ordering.{Ordering}
use Rattle.std.specs.declared.cmp.Ordering.TheVariants.{Less, Equal, Greater}
use Rattle.std.specs.BTreeMap.{BTreeMap, WritesThrough, get, insert_entry, is_at}
use Rattle.std.specs.Cmp.{Equal-is}
use Rattle.std.specs.Map.{lookup, remove_entry, set_value}
use Rattle.std.specs.Ordering.{is_eq, match_ordering, ordering_reverse, ordering_then}
use Rattle.dv_order.specs.Key.{KeyTree, key_order}
use Rattle.dv_order.specs.Inner.KeyLaws.{key_order_total, equal-back}
use Rattle.dv_row.specs.Row.{Row}
use Rattle.dv_change.specs.declared.position.Part.TheVariants.{Up}
use Rattle.dv_change.specs.Changes.{Positioned, forget}
use Rattle.dv_change.specs.Inner.Changes.{IsPositioned}
use Rattle.dv_change.specs.Inner.Ordered.{gone}
use Rattle.dv_change.specs.Positions.{IsExact, PosTree}
use Rattle.dv_change.specs.Inner.RowLaws.{positioned-none}
use Rattle.dv_gather.specs.Grouping.{Grouping, row_shown}
use Rattle.dv_group.specs.declared.group_state.GroupState.{GroupState}
use Rattle.dv_group.specs.declared.live_group.LiveGroup.{LiveGroup}
use Rattle.dv_group.specs.Inner.Grouped.{beside}
use Rattle.dv_group.specs.Inner.SumBounds.{IsGroupState}
use Rattle.dv_group.specs.declared.transition.Transition.{Transition}
use Rattle.dv_group.specs.declared.transition.RowsWanted.{RowsWanted}
use Rattle.dv_group.specs.declared.transition.RowsWanted.TheVariants.{Unwanted, Wanted}
use Rattle.dv_group.specs.Inner.Members.{AreLiveGroups, IsLiveGroup, IsRowIfMade, IsTransition, IsShownIfWanted, LiveGroups, are_one, group_members, is_key, moved, put_some, rows_in, set_at, shown_of, with_shown}
use Rattle.dv_group.proofs.GroupStates.{set-over}
use Rattle.dv_value.specs.Inner.ListLaws.{cond-over}

-- equal keys have the same rows
pub members-alike : (k l : KeyTree) → key_order k l ≡ Equal → (es : LiveGroups) → group_members k es ≡ group_members l es
members-alike k l e es = ap rows_in (found es)
  where
    found : (es : LiveGroups) → lookup (is_at (key_order k)) es ≡ lookup (is_at (key_order l)) es
    found [] = refl
    found (x ∷ es) = λ i. cond (beside k l x.0 e i) (Some x.1) (found es i)

-- a list without a first element is empty
pub none-first : {A : Type 0} (xs : List A) → slice_get xs 0 ≡ None → xs ≡ []
none-first [] e = refl
none-first (x ∷ xs) e = absurd cc

module _ (es fs : LiveGroups) (key : KeyTree) where
  -- the rows under one key are changed
  pub changed-under : (change : Positioned → Positioned) (new : Option LiveGroup) → rows_in new ≡ change (group_members key es) → ((k : KeyTree) → lookup (is_at (key_order k)) fs ≡ cond (is_at (key_order key) k) new (lookup (is_at (key_order k)) es))
      → (k : KeyTree) → group_members k fs ≡ cond (is_eq (key_order k key)) (change (group_members k es)) (group_members k es)
  changed-under change new is written k = ap rows_in (written k ∙ ap (λ b. cond b new (lookup (is_at (key_order k)) es)) (equal-back key k)) ∙ by (is_eq (key_order k key)) refl
    where
      by : (b : Bool) → is_eq (key_order k key) ≡ b → rows_in (cond b new (lookup (is_at (key_order k)) es)) ≡ cond b (change (group_members k es)) (group_members k es)
      by true here = is ∙ ap change (sym (members-alike k key ((Equal-is (key_order k key)).0 here) es))
      by false here = refl

-- if a key is written twice, the last value stays
pub written-over : (es ms fs : LiveGroups) (key : KeyTree) (first last : Option LiveGroup)
    → ((k : KeyTree) → lookup (is_at (key_order k)) ms ≡ cond (is_at (key_order key) k) first (lookup (is_at (key_order k)) es))
    → ((k : KeyTree) → lookup (is_at (key_order k)) fs ≡ cond (is_at (key_order key) k) last (lookup (is_at (key_order k)) ms))
    → (k : KeyTree) → lookup (is_at (key_order k)) fs ≡ cond (is_at (key_order key) k) last (lookup (is_at (key_order k)) es)
written-over es ms fs key first last before behind k =
    behind k ∙ ap (cond (is_at (key_order key) k) last) (before k) ∙ cond-over (is_at (key_order key) k) last first (lookup (is_at (key_order k)) es)

-- what is written under a copy of a key is under the key
pub written-under : (es fs : LiveGroups) (key own : KeyTree) (new : Option LiveGroup) → own ≡ key
    → ((k : KeyTree) → lookup (is_at (key_order k)) fs ≡ cond (is_at (key_order own) k) new (lookup (is_at (key_order k)) es))
    → (k : KeyTree) → lookup (is_at (key_order k)) fs ≡ cond (is_at (key_order key) k) new (lookup (is_at (key_order k)) es)
written-under es fs key own new same written k = written k ∙ ap (λ (l : KeyTree). cond (is_at (key_order l) k) new (lookup (is_at (key_order k)) es)) same

-- what is written in the slot of a group is under its key
pub written-there : (m n : BTreeMap KeyTree LiveGroup) (key : KeyTree) (old new : LiveGroup) → Some old ≡ get key_order m key → WritesThrough key_order (key_order key) m new n
    → (k : KeyTree) → lookup (is_at (key_order k)) n.entries ≡ cond (is_at (key_order key) k) (Some new) (lookup (is_at (key_order k)) m.entries)
written-there m n key old new there writes = (writes.3 (rw (← there) refl)).0

pub found-there : (m n : BTreeMap KeyTree LiveGroup) (key : KeyTree) (old new : LiveGroup) → Some old ≡ get key_order m key → WritesThrough key_order (key_order key) m new n → Some new ≡ get key_order n key
found-there m n key old new there writes = sym (writes.3 (rw (← there) refl)).1

-- ---- two keys

-- if they are equal, a key equals both or neither
one-key : (key other : Option KeyTree) → are_one key other ≡ true → (k : KeyTree) → is_key k key ≡ is_key k other
one-key None other one k = cc
one-key (Some a) None one k = cc
one-key (Some a) (Some b) one k = equal-back k a ∙ beside a b k ((Equal-is (key_order a b)).0 one) ∙ equal-back b k

-- if they are equal, the row of their group is shown once
pub shown-once : (g : Grouping) (es : LiveGroups) (key other : Option KeyTree) → are_one key other ≡ true → with_shown g (λ k. group_members k es) key [] ≡ shown_of g (λ k. group_members k es) key other
shown-once g es None other one = cc
shown-once g es (Some k) None one = cc
shown-once g es (Some k) (Some l) one =
    let beside_l : key_order k l ≡ Equal = (Equal-is (key_order k l)).0 one in
    by (row_shown g (forget (group_members k es))) (order_back k l beside_l) ∙ ap (λ rows. put_some (Up l ∷ []) (row_shown g (forget rows)) (put_some (Up k ∷ []) (row_shown g (forget (group_members k es))) [])) (members-alike k l beside_l es)
  where
    order_back : (k l : KeyTree) → key_order k l ≡ Equal → key_order l k ≡ Equal
    order_back k l e = key_order_total.antisymm l k ∙ ap ordering_reverse e

    by : (r : Option Row) → key_order l k ≡ Equal → put_some (Up k ∷ []) r [] ≡ put_some (Up l ∷ []) r (put_some (Up k ∷ []) r [])
    by None e = refl
    by (Some d) e = ap (λ o. match_ordering (ordering_then o Equal) ((Up l ∷ [], d) ∷ (Up k ∷ [], d) ∷ []) ((Up k ∷ [], d) ∷ []) ((Up k ∷ [], d) ∷ (Up l ∷ [], d) ∷ [])) (sym e)

-- ---- sound groups

module _ (g : Grouping) where
  -- one whose row isn't computed
  pub live-of : (b : GroupState) (live : LiveGroup) → live.state ≡ b → live.row ≡ None → IsGroupState g.fields b → IsLiveGroup g live
  live-of b live is none sound = record {
    state = subst (λ (x : GroupState). IsGroupState g.fields x) (sym is) sound;
    row = subst (IsRowIfMade g live.state.members) (sym none) tt;
  }

  -- one whose row is computed
  row-if-made : (rows : Positioned) (row : Option Row) → row ≡ row_shown g (forget rows) → IsRowIfMade g rows row
  row-if-made rows None is = tt
  row-if-made rows (Some d) is = is

  shown-row : (wish : RowsWanted) (rows : Positioned) (row : Option Row) → IsShownIfWanted wish g rows row → IsRowIfMade g rows row
  shown-row Unwanted rows row is = subst (IsRowIfMade g rows) (sym is) tt
  shown-row (Wanted lender) rows row is = row-if-made rows row is

  -- one whose row is the row that is shown
  pub live-shown : (wish : RowsWanted) (before : LiveGroup) (row : Option Row) → IsShownIfWanted wish g before.state.members row → IsLiveGroup g before → IsLiveGroup g (record { state = before.state; row = row })
  live-shown wish before row is sound = record { state = sound.state; row = shown-row wish before.state.members row is }

  -- ---- what is shown

  -- of the same rows
  pub shown-alike : (wish : RowsWanted) (was now rows more : Positioned) (transition : Transition) → was ≡ rows → now ≡ more → IsTransition wish g was now transition → IsTransition wish g rows more transition
  shown-alike wish was now rows more transition before after shown =
      (subst (λ (es : Positioned). IsShownIfWanted wish g es transition.before) before shown.0, subst (λ (es : Positioned). IsShownIfWanted wish g es transition.after) after shown.1)

  with-entry : (k : KeyTree) (b : LiveGroup) (es : LiveGroups) → IsLiveGroup g b → AreLiveGroups g es → AreLiveGroups g (insert_entry key_order es k b)
  with-entry k b [] sound all = (sound, tt)
  with-entry k b (e ∷ es) sound all = by (key_order k e.0) (with-entry k b es sound all.1)
    where
      by : (r : Ordering) → AreLiveGroups g (insert_entry key_order es k b) → AreLiveGroups g (match_ordering r ((k, b) ∷ e ∷ es) ((e.0, b) ∷ es) (e ∷ insert_entry key_order es k b))
      by Less rest = (sound, all)
      by Equal rest = (sound, all.1)
      by Greater rest = (all.0, rest)

  pub groups-put : (k : KeyTree) (b : LiveGroup) (es fs : LiveGroups) → fs ≡ insert_entry key_order es k b → IsLiveGroup g b → AreLiveGroups g es → AreLiveGroups g fs
  groups-put k b es fs is sound all = subst (AreLiveGroups g) (sym is) (with-entry k b es sound all)

  without-entry : (k : KeyTree) (es : LiveGroups) → AreLiveGroups g es → AreLiveGroups g (remove_entry (is_at (key_order k)) es)
  without-entry k [] all = tt
  without-entry k (e ∷ es) all = by (is_eq (key_order k e.0)) (without-entry k es all.1)
    where
      by : (b : Bool) → AreLiveGroups g (remove_entry (is_at (key_order k)) es) → AreLiveGroups g (cond b es (e ∷ remove_entry (is_at (key_order k)) es))
      by true rest = all.1
      by false rest = (all.0, rest)

  pub groups-left : (k : KeyTree) (es fs : LiveGroups) → fs ≡ remove_entry (is_at (key_order k)) es → AreLiveGroups g es → AreLiveGroups g fs
  groups-left k es fs is all = subst (AreLiveGroups g) (sym is) (without-entry k es all)

  with-value : (test : KeyTree → Bool) (w : LiveGroup) (es : LiveGroups) → IsLiveGroup g w → AreLiveGroups g es → AreLiveGroups g (set_value test es w)
  with-value test w [] sound all = tt
  with-value test w (e ∷ es) sound all = by (test e.0) (with-value test w es sound all.1)
    where
      by : (b : Bool) → AreLiveGroups g (set_value test es w) → AreLiveGroups g (cond b ((e.0, w) ∷ es) (e ∷ set_value test es w))
      by true rest = (sound, all.1)
      by false rest = (all.0, rest)

  pub groups-written : (key : KeyTree) (w : LiveGroup) (es fs : LiveGroups) → fs ≡ set_value (is_at (key_order key)) es w → IsLiveGroup g w → AreLiveGroups g es → AreLiveGroups g fs
  groups-written key w es fs is sound all = subst (AreLiveGroups g) (sym is) (with-value (is_at (key_order key)) w es sound all)

  members-positioned : (k : KeyTree) (es : LiveGroups) → AreLiveGroups g es → IsPositioned (group_members k es)
  members-positioned k [] all = positioned-none
  members-positioned k (e ∷ es) all = by (is_eq (key_order k e.0)) (members-positioned k es all.1)
    where
      by : (b : Bool) → IsPositioned (group_members k es) → IsPositioned (rows_in (cond b (Some e.1) (lookup (is_at (key_order k)) es)))
      by true rest = all.0.state.positioned
      by false rest = rest

  -- the row that is set in a group replaces the row that is removed
  pub stays-one : (pos : PosTree) (key other : Option KeyTree) (new : Option Row) → are_one key other ≡ true → (es : LiveGroups) → IsExact pos → AreLiveGroups g es → (k : KeyTree)
      → cond (is_key k key) (set_at pos new (group_members k es)) (group_members k es) ≡ moved pos key other new k (group_members k es)
  stays-one pos key other new one es exact all k =
      by (is_key k key) ∙ ap (λ b. cond b (set_at pos new (cond (is_key k key) (gone pos rows) rows)) (cond (is_key k key) (gone pos rows) rows)) (one-key key other one k)
    where
      rows : Positioned
      rows = group_members k es

      by : (b : Bool) → cond b (set_at pos new rows) rows ≡ cond b (set_at pos new (cond b (gone pos rows) rows)) (cond b (gone pos rows) rows)
      by true = sym (set-over pos new rows (members-positioned k es all) exact)
      by false = refl

  pub group-there : (k : KeyTree) (b : LiveGroup) (es : LiveGroups) → lookup (is_at (key_order k)) es ≡ Some b → AreLiveGroups g es → IsLiveGroup g b
  group-there k b [] there all = cc
  group-there k b (e ∷ es) there all = by (is_eq (key_order k e.0)) there (λ there. group-there k b es there all.1)
    where
      by : (c : Bool) → cond c (Some e.1) (lookup (is_at (key_order k)) es) ≡ Some b → (lookup (is_at (key_order k)) es ≡ Some b → IsLiveGroup g b) → IsLiveGroup g b
      by true there rest = let same : e.1 ≡ b = cc in subst (λ (c : LiveGroup). IsLiveGroup g c) same all.0
      by false there rest = rest there
