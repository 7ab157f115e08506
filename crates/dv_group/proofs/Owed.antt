-- What has to be returned for a change of a row: the changes of the rows of its two groups.
use Rattle.std.specs.Prelude.{◌≡◌, ◌||◌, Bool, true, false, cond, List, [], ◌∷◌, Option, None, Some, Result, Ok, Err, IfOk, OnOk, refl}
use Rattle.std.proofs.Common.{ap, sym, ◌∙◌, inl, inr}
use Rattle.std.specs.declared.cmp.Ordering.{Ordering}
use Rattle.std.specs.declared.cmp.Ordering.TheVariants.{Less, Equal, Greater}
use Rattle.std.specs.Cmp.{Equal-is}
use Rattle.std.specs.BTreeMap.{is_at}
use Rattle.std.specs.List.{AllByRecursion, list_any}
use Rattle.std.specs.Map.{keys_of, lookup}
use Rattle.std.specs.Option.{option_map}
use Rattle.std.specs.Ordering.{is_eq, ordering_then}
use Rattle.std.proofs.lemmas.Map.Entries.{option_filter}
use Rattle.dv_order.specs.Key.{KeyTree, key_order}
use Rattle.dv_order.specs.OwnKeys.{IsOwn}
use Rattle.dv_row.specs.Row.{Row}
use Rattle.dv_change.specs.declared.change.Change.{Change}
use Rattle.dv_change.specs.declared.position.Part.TheVariants.{Up, Down, At}
use Rattle.dv_change.specs.declared.taking.Taken.{Taken}
use Rattle.dv_change.specs.Changes.{Positioned, at, forget, with_change, with_changes}
use Rattle.dv_change.specs.Inner.Changes.{IsExactChange, IsPositioned, position_changed, row_in}
use Rattle.dv_change.specs.Difference.{diff}
use Rattle.dv_change.specs.Inner.DiffLaws.{IsPartAt, at-changed, at-filter, diff-parts, exact-place, or_else, positioned-changed, positioned-filter}
use Rattle.dv_change.specs.Inner.Ordered.{gone}
use Rattle.dv_change.specs.Positions.{IsExact, PosTree, pos_order}
use Rattle.dv_change.specs.Inner.RowLaws.{all-put, at-gone, at-like, at-put, at_back, positioned-gone, positioned-none, positioned-put, same_rows}
use Rattle.dv_change.specs.Inner.Told.{diff_told, told_along, with_old}
use Rattle.dv_change.specs.Inner.ToldLaws.{along-diff, told-parts}
use Rattle.dv_gather.specs.Grouping.{Grouping, row_shown}
use Rattle.dv_group.specs.Inner.Grouped.{IsKeyPlace, at-grouped, beside, group_ordered, grouped-places, one-part}
use Rattle.dv_group.specs.Inner.Members.{AreMembers, LiveGroups, row_has_key, is_key, group_members, moved, moved_all, moved_as, put_some, row_key, rows_in, rows_with, set_at, shown_as, shown_of, with_shown}
use Rattle.dv_group.specs.Placed.{grouped_at}

-- ---- one more row, if there is one

at-put_some : (q p : PosTree) (r : Option Row) (rows : Positioned) → at q (put_some p r rows) ≡ cond (is_eq (pos_order q p)) (or_else r (at q rows)) (at q rows)
at-put_some q p None rows = by (is_eq (pos_order q p))
  where
    by : (b : Bool) → at q rows ≡ cond b (at q rows) (at q rows)
    by true = refl
    by false = refl
at-put_some q p (Some d) rows = at-put q p d rows

positioned-put_some : (p : PosTree) (r : Option Row) (rows : Positioned) → IsPositioned rows → IsExact p → IsPositioned (put_some p r rows)
positioned-put_some p None rows are x = are
positioned-put_some p (Some d) rows are x = positioned-put p d rows are x

pub all-put_some : (P : PosTree → Type 0) (p : PosTree) (r : Option Row) (rows : Positioned) → AllByRecursion P (keys_of rows) → P p → AllByRecursion P (keys_of (put_some p r rows))
all-put_some P p None rows all here = all
all-put_some P p (Some d) rows all here = all-put P p d rows all here

-- ---- what is set

at-set_at : (q p : PosTree) (r : Option Row) (rows : Positioned) → IsPositioned rows → at q (set_at p r rows) ≡ cond (is_eq (pos_order q p)) r (at q rows)
at-set_at q p None rows are = at-gone q p rows are.ascending ∙ ap (λ b. cond b None (at q rows)) (at_back p q)
at-set_at q p (Some d) rows are = at-put q p d rows

positioned-set_at : (p : PosTree) (r : Option Row) (rows : Positioned) → IsPositioned rows → IsExact p → IsPositioned (set_at p r rows)
positioned-set_at p None rows are x = positioned-gone p rows are
positioned-set_at p (Some d) rows are x = positioned-put p d rows are x

-- ---- positions that aren't a key alone

nowhere : (q : PosTree) → ((k : KeyTree) → is_eq (pos_order q (Up k ∷ [])) ≡ false) → (rows : Positioned) → AllByRecursion IsKeyPlace (keys_of rows) → at q rows ≡ None
nowhere q apart [] all = refl
nowhere q apart (e ∷ rows) all = ap (λ b. cond b (Some e.1) (at q rows)) (ap (λ p. is_eq (pos_order q p)) all.0.1 ∙ apart all.0.0) ∙ nowhere q apart rows all.1

longer : (o : Ordering) → is_eq (ordering_then o Greater) ≡ false
longer Less = refl
longer Equal = refl
longer Greater = refl

-- ---- what is removed and what is added

nothing-else : (a : Option Row) → or_else a None ≡ a
nothing-else None = refl
nothing-else (Some d) = refl

none-left : (b : Bool) (m : Option Row) → (b ≡ false → m ≡ None) → cond b None m ≡ None
none-left true m none = refl
none-left false m none = none refl

either-same : (b : Bool) (m : Option Row) → cond b m m ≡ m
either-same true m = refl
either-same false m = refl

-- a row that passes is taken out where it was, and put in where it is now
settled : (h : Row → Bool) (b c here : Bool) (old new there : Option Row) → (b ≡ false → option_filter h old ≡ None) → (c ≡ false → option_filter h new ≡ None) → (c ≡ true → option_filter h new ≡ new) → (here ≡ true → there ≡ old)
    → (left : Option Row) → left ≡ cond b (cond here None (option_filter h there)) (option_filter h there) → cond c (cond here new left) left ≡ option_filter h (cond here new there)
settled h b c true old new there goes none stays same left is =
    let out : left ≡ None = is ∙ none-left b (option_filter h there) (λ e. ap (option_filter h) (same refl) ∙ goes e) in
    ap (λ l. cond c new l) out ∙ comes c none stays
  where
    comes : (c : Bool) → (c ≡ false → option_filter h new ≡ None) → (c ≡ true → option_filter h new ≡ new) → cond c new None ≡ option_filter h new
    comes true none stays = sym (stays refl)
    comes false none stays = sym (none refl)
settled h b c false old new there goes none stays same left is = either-same c left ∙ is ∙ either-same b (option_filter h there)

module _ (g : Grouping) where
  rows_with-alike : (k l : KeyTree) → key_order k l ≡ Equal → (rows : Positioned) → rows_with g k rows ≡ rows_with g l rows
  rows_with-alike k l e [] = refl
  rows_with-alike k l e (r ∷ rows) = λ i. cond (beside k l (row_key g r.1) e i) (r ∷ rows_with-alike k l e rows i) (rows_with-alike k l e rows i)

  -- ---- the rows of the groups of two keys

  shown-positioned : (under : KeyTree → Positioned) (key : Option Row) (rows : Positioned) → IsPositioned rows → IsPositioned (with_shown g under (option_map (row_key g) key) rows)
  shown-positioned under None rows are = are
  shown-positioned under (Some d) rows are = positioned-put_some (Up (row_key g d) ∷ []) (row_shown g (forget (under (row_key g d)))) rows are (record { of = Some _; is = refl }, tt)

  shown-places : (under : KeyTree → Positioned) (key : Option KeyTree) (rows : Positioned) → AllByRecursion IsKeyPlace (keys_of rows) → AllByRecursion IsKeyPlace (keys_of (with_shown g under key rows))
  shown-places under None rows all = all
  shown-places under (Some k) rows all = all-put_some IsKeyPlace (Up k ∷ []) (row_shown g (forget (under k))) rows all (k, refl)

  module _ (under : KeyTree → Positioned) (rows : Positioned) (kept : AreMembers g under rows) (k : KeyTree) where
    abbrev shown : Option Row
    shown = row_shown g (forget (rows_with g k rows))

    with_shown-at : (key : Option KeyTree) (others : Positioned) → at (Up k ∷ []) (with_shown g under key others) ≡ cond (is_key k key) (or_else shown (at (Up k ∷ []) others)) (at (Up k ∷ []) others)
    with_shown-at None others = refl
    with_shown-at (Some l) others =
        at-put_some (Up k ∷ []) (Up l ∷ []) (row_shown g (forget (under l))) others
        ∙ ap (λ b. cond b (or_else (row_shown g (forget (under l))) (at (Up k ∷ []) others)) (at (Up k ∷ []) others)) (one-part (key_order k l))
        ∙ by (is_eq (key_order k l)) refl
      where
        by : (b : Bool) → is_eq (key_order k l) ≡ b → cond b (or_else (row_shown g (forget (under l))) (at (Up k ∷ []) others)) (at (Up k ∷ []) others) ≡ cond b (or_else shown (at (Up k ∷ []) others)) (at (Up k ∷ []) others)
        by true here = ap (λ ms. or_else (row_shown g (forget ms)) (at (Up k ∷ []) others)) (kept l ∙ sym (rows_with-alike k l ((Equal-is (key_order k l)).0 here) rows))
        by false here = refl

    one-shown : (b c : Bool) (r : Option Row) → cond c (or_else r (cond b (or_else r None) None)) (cond b (or_else r None) None) ≡ cond (b || c) r None
    one-shown true true None = refl
    one-shown true true (Some d) = refl
    one-shown true false None = refl
    one-shown true false (Some d) = refl
    one-shown false true None = refl
    one-shown false true (Some d) = refl
    one-shown false false r = refl

    shown-at : (key other : Option KeyTree) → at (Up k ∷ []) (shown_of g under key other) ≡ cond (is_key k key || is_key k other) shown None
    shown-at key other =
        with_shown-at other (with_shown g under key [])
        ∙ ap (λ a. cond (is_key k other) (or_else shown a) a) (with_shown-at key [])
        ∙ one-shown (is_key k key) (is_key k other) shown

  -- ---- the rows of all groups

  module _ (under : KeyTree → Positioned) where
    -- rows with those of the groups of some keys, one after the other
    abbrev pub with_each : List KeyTree → Positioned → Positioned
    with_each [] rows = rows
    with_each (k ∷ ks) rows = with_each ks (with_shown g under (Some k) rows)

    pub positioned-group : (k : KeyTree) (rows : Positioned) → IsOwn k → IsPositioned rows → IsPositioned (with_shown g under (Some k) rows)
    positioned-group k rows own are = positioned-put_some (Up k ∷ []) (row_shown g (forget (under k))) rows are (own, tt)

    places-each : (ks : List KeyTree) (rows : Positioned) → AllByRecursion IsKeyPlace (keys_of rows) → AllByRecursion IsKeyPlace (keys_of (with_each ks rows))
    places-each [] rows all = all
    places-each (k ∷ ks) rows all = places-each ks (with_shown g under (Some k) rows) (shown-places under (Some k) rows all)

    abbrev is_any : KeyTree → List KeyTree → Bool
    is_any k ks = list_any (λ l. is_eq (key_order k l)) ks

    module _ (rows : Positioned) (kept : AreMembers g under rows) where
      shown-twice : (b any : Bool) (r a : Option Row) → cond any (or_else r (cond b (or_else r a) a)) (cond b (or_else r a) a) ≡ cond (b || any) (or_else r a) a
      shown-twice true true None a = refl
      shown-twice true true (Some d) a = refl
      shown-twice true false r a = refl
      shown-twice false any r a = refl

      at-each_with : (k : KeyTree) (ks : List KeyTree) (so_far : Positioned) → at (Up k ∷ []) (with_each ks so_far) ≡ cond (is_any k ks) (or_else (row_shown g (forget (rows_with g k rows))) (at (Up k ∷ []) so_far)) (at (Up k ∷ []) so_far)
      at-each_with k [] so_far = refl
      at-each_with k (l ∷ ks) so_far =
          let r = row_shown g (forget (rows_with g k rows)) in
          at-each_with k ks (with_shown g under (Some l) so_far)
          ∙ ap (λ a. cond (is_any k ks) (or_else r a) a) (with_shown-at under rows kept k (Some l) so_far)
          ∙ shown-twice (is_eq (key_order k l)) (is_any k ks) r (at (Up k ∷ []) so_far)

      -- if there are no rows under other keys, they are the rows of all groups
      pub all-grouped : (ks : List KeyTree) → ((k : KeyTree) → is_any k ks ≡ false → under k ≡ []) → IsPositioned rows → IsPositioned (with_each ks []) → with_each ks [] ≡ grouped_at g rows
      all-grouped ks none are made = same_rows (with_each ks []) (grouped_at g rows) made (group_ordered g rows are) (λ q exact. there q)
        where
          elsewhere : (q : PosTree) → ((k : KeyTree) → is_eq (pos_order q (Up k ∷ [])) ≡ false) → at q (with_each ks []) ≡ at q (grouped_at g rows)
          elsewhere q apart = nowhere q apart (with_each ks []) (places-each ks [] tt) ∙ sym (nowhere q apart (grouped_at g rows) (grouped-places g rows))

          there : (q : PosTree) → at q (with_each ks []) ≡ at q (grouped_at g rows)
          there [] = elsewhere [] (λ k. refl)
          there (Down l ∷ q) = elsewhere (Down l ∷ q) (λ k. refl)
          there (At n ∷ q) = elsewhere (At n ∷ q) (λ k. refl)
          there (Up l ∷ a ∷ q) = elsewhere (Up l ∷ a ∷ q) (λ k. longer (key_order l k))
          there (Up k ∷ []) = at-each_with k ks [] ∙ by (is_any k ks) refl ∙ sym (at-grouped g rows k)
            where
              shown : Option Row
              shown = row_shown g (forget (rows_with g k rows))

              by : (b : Bool) → is_any k ks ≡ b → cond b (or_else shown None) None ≡ shown
              by true is = nothing-else shown
              by false is = ap (λ es. row_shown g (forget es)) (sym (none k is) ∙ kept k)

  -- ---- a change of a row

  without-key : (k : KeyTree) (r : Option Row) → is_key k (option_map (row_key g) r) ≡ false → option_filter (row_has_key g k) r ≡ None
  without-key k None other = refl
  without-key k (Some d) other = ap (λ b. cond b (Some d) None) other

  with-key : (k : KeyTree) (r : Option Row) → is_key k (option_map (row_key g) r) ≡ true → option_filter (row_has_key g k) r ≡ r
  with-key k None own = refl
  with-key k (Some d) own = ap (λ b. cond b (Some d) None) own

  module _ (rows : Positioned) (change : Change) (are : IsPositioned rows) (exact : IsExactChange change) where
    abbrev after : Positioned
    after = with_change rows change

    abbrev pos : PosTree
    pos = position_changed change

    abbrev key : Option KeyTree
    key = option_map (row_key g) (at pos rows)

    abbrev other : Option KeyTree
    other = option_map (row_key g) (row_in change)

    changed : IsPositioned after
    changed = positioned-changed rows change are exact

    -- the rows with a key after the change
    at-with : (k : KeyTree) (q : PosTree) (es : Positioned) → IsPositioned es → at q (rows_with g k es) ≡ option_filter (row_has_key g k) (at q es)
    at-with k q es these = at-filter (λ e. row_has_key g k e.1) q (row_has_key g k) (λ p v e. refl) es these

    either : {A : Type 0} (P : A → Type 0) (b : Bool) (x y : A) → P x → P y → P (cond b x y)
    either P true x y p q = p
    either P false x y p q = q

    module _ (k : KeyTree) where
      abbrev have : Positioned
      have = rows_with g k rows

      abbrev left : Positioned
      left = cond (is_key k key) (gone pos have) have

      abbrev now : Positioned
      now = cond (is_key k other) (set_at pos (row_in change) left) left

      are-have : IsPositioned have
      are-have = positioned-filter (λ e. row_has_key g k e.1) rows are

      are-left : IsPositioned left
      are-left = either (λ (es : Positioned). IsPositioned es) (is_key k key) (gone pos have) have (positioned-gone pos have are-have) are-have

      are-now : IsPositioned now
      are-now = either (λ (es : Positioned). IsPositioned es) (is_key k other) (set_at pos (row_in change) left) left (positioned-set_at pos (row_in change) left are-left (exact-place change exact)) are-left

      at-either : (q : PosTree) (b : Bool) (es fs : Positioned) → at q (cond b es fs) ≡ cond b (at q es) (at q fs)
      at-either q true es fs = refl
      at-either q false es fs = refl

      at-left : (q : PosTree) → at q left ≡ cond (is_key k key) (cond (is_eq (pos_order q pos)) None (option_filter (row_has_key g k) (at q rows))) (option_filter (row_has_key g k) (at q rows))
      at-left q =
          let there = at-with k q rows are in
          at-either q (is_key k key) (gone pos have) have
          ∙ ap (λ a. cond (is_key k key) a (at q have)) (at-gone q pos have are-have.ascending)
          ∙ (λ i. cond (is_key k key) (cond (at_back pos q i) None (there i)) (there i))

      at-now : (q : PosTree) → at q now ≡ at q (rows_with g k after)
      at-now q =
          at-either q (is_key k other) (set_at pos (row_in change) left) left
          ∙ ap (λ a. cond (is_key k other) a (at q left)) (at-set_at q pos (row_in change) left are-left)
          ∙ settled (row_has_key g k) (is_key k key) (is_key k other) (is_eq (pos_order q pos)) (at pos rows) (row_in change) (at q rows) (without-key k (at pos rows)) (without-key k (row_in change)) (with-key k (row_in change)) (λ here. at-like q pos ((Equal-is (pos_order q pos)).0 here) rows) (at q left) (at-left q)
          ∙ sym (at-with k q after changed ∙ ap (option_filter (row_has_key g k)) (at-changed q rows change are))

      now-is : now ≡ rows_with g k after
      now-is = same_rows now (rows_with g k after) are-now (positioned-filter (λ e. row_has_key g k e.1) after changed) (λ q x. at-now q)

      stays : is_key k key || is_key k other ≡ false → rows_with g k after ≡ have
      stays apart = sym now-is ∙ by (is_key k key) (is_key k other) apart
        where
          by : (b c : Bool) → b || c ≡ false → cond c (set_at pos (row_in change) (cond b (gone pos have) have)) (cond b (gone pos have) have) ≡ have
          by true c apart = cc
          by false true apart = cc
          by false false apart = refl

    -- the groups have their rows after the change
    pub still-members : (was is : KeyTree → Positioned) → AreMembers g was rows → ((k : KeyTree) → is k ≡ moved pos key other (row_in change) k (was k)) → AreMembers g is after
    still-members was is kept are-moved k = are-moved k ∙ ap (moved pos key other (row_in change) k) (kept k) ∙ now-is k

    module _ (was is : KeyTree → Positioned) (kept : AreMembers g was rows) (still : AreMembers g is after) where
      abbrev before_rows : Positioned
      before_rows = shown_of g was key other

      abbrev after_rows : Positioned
      after_rows = shown_of g is key other

      pub shown-are : (under : KeyTree → Positioned) → IsPositioned (shown_of g under key other)
      shown-are under = shown-positioned under (row_in change) (with_shown g under key []) (shown-positioned under (at pos rows) [] positioned-none)

      places : (under : KeyTree → Positioned) → AllByRecursion IsKeyPlace (keys_of (shown_of g under key other))
      places under = shown-places under other (with_shown g under key []) (shown-places under key [] tt)

      elsewhere : (q : PosTree) → ((k : KeyTree) → is_eq (pos_order q (Up k ∷ [])) ≡ false) → IsPartAt (grouped_at g rows) (grouped_at g after) before_rows after_rows q
      elsewhere q apart = inr (nowhere q apart before_rows (places was), nowhere q apart after_rows (places is), nowhere q apart (grouped_at g rows) (grouped-places g rows) ∙ sym (nowhere q apart (grouped_at g after) (grouped-places g after)))

      part : (q : PosTree) → IsPartAt (grouped_at g rows) (grouped_at g after) before_rows after_rows q
      part [] = elsewhere [] (λ k. refl)
      part (Down l ∷ q) = elsewhere (Down l ∷ q) (λ k. refl)
      part (At n ∷ q) = elsewhere (At n ∷ q) (λ k. refl)
      part (Up l ∷ a ∷ q) = elsewhere (Up l ∷ a ∷ q) (λ k. longer (key_order l k))
      part (Up k ∷ []) = by (is_key k key || is_key k other) refl
        where
          by : (b : Bool) → is_key k key || is_key k other ≡ b → IsPartAt (grouped_at g rows) (grouped_at g after) before_rows after_rows (Up k ∷ [])
          by true own = inl (
            shown-at was rows kept k key other ∙ ap (λ b. cond b (row_shown g (forget (rows_with g k rows))) None) own ∙ sym (at-grouped g rows k),
            shown-at is after still k key other ∙ ap (λ b. cond b (row_shown g (forget (rows_with g k after))) None) own ∙ sym (at-grouped g after k),
          )
          by false apart = inr (
            shown-at was rows kept k key other ∙ ap (λ b. cond b (row_shown g (forget (rows_with g k rows))) None) apart,
            shown-at is after still k key other ∙ ap (λ b. cond b (row_shown g (forget (rows_with g k after))) None) apart,
            at-grouped g rows k ∙ ap (λ ds. row_shown g (forget ds)) (sym (stays k apart)) ∙ sym (at-grouped g after k),
          )

      pub group-owed : diff (grouped_at g rows) (grouped_at g after) ≡ diff before_rows after_rows
      group-owed = diff-parts (grouped_at g rows) (grouped_at g after) before_rows after_rows (group_ordered g rows are) (group_ordered g after changed) (shown-are was) (shown-are is) (λ q x. part q)

      pub group-told : told_along (grouped_at g rows) (diff (grouped_at g rows) (grouped_at g after)) ≡ diff_told before_rows after_rows
      group-told =
          along-diff (grouped_at g rows) (grouped_at g after) (group_ordered g rows are) (group_ordered g after changed)
          ∙ told-parts (grouped_at g rows) (grouped_at g after) before_rows after_rows (group_ordered g rows are) (group_ordered g after changed) (shown-are was) (shown-are is) (λ q x. part q)

  -- ---- the same in memory: a change with the row that was there, and the groups before and after

  module _ (rows : Positioned) (change : Change) (are : IsPositioned rows) (exact : IsExactChange change) (kept still : LiveGroups) (taken : Taken) (told : taken ≡ with_old rows change)
      (are-kept : AreMembers g (λ k. group_members k kept) rows)
      (is-moved : (k : KeyTree) → group_members k still ≡ moved_as g k (group_members k kept) taken) where
    pub are-still : AreMembers g (λ k. group_members k still) (with_change rows change)
    are-still =
        still-members rows change are exact (λ k. group_members k kept) (λ k. group_members k still) are-kept
        (λ k. is-moved k ∙ ap (moved_as g k (group_members k kept)) told)

    pub taken-told : diff_told (shown_as g kept taken) (shown_as g still taken) ≡ told_along (grouped_at g rows) (diff (grouped_at g rows) (grouped_at g (with_change rows change)))
    taken-told =
        (λ i. diff_told (shown_as g kept (told i)) (shown_as g still (told i)))
        ∙ sym (group-told rows change are exact (λ k. group_members k kept) (λ k. group_members k still) are-kept are-still)

  -- ---- changes of rows, one after the other

  pub members-along : (changes : List Change) (rows : Positioned) (was is : KeyTree → Positioned) → IsPositioned rows → AllByRecursion IsExactChange changes → AreMembers g was rows
      → ((k : KeyTree) → is k ≡ moved_all g k (was k) (told_along rows changes)) → AreMembers g is (with_changes rows changes)
  members-along [] rows was is are exact kept are-moved = λ k. are-moved k ∙ kept k
  members-along (change ∷ changes) rows was is are exact kept are-moved =
      let next : KeyTree → Positioned = λ k. moved_as g k (was k) (with_old rows change) in
      members-along changes (with_change rows change) next is (positioned-changed rows change are exact.0) exact.1 (still-members rows change are exact.0 was next kept (λ k. refl)) are-moved

-- groups that are the same have the same rows
pub members-same : (g h : Grouping) (es fs : LiveGroups) (left : Positioned) → h ≡ g → fs ≡ es → AreMembers g (λ k. group_members k es) left → AreMembers h (λ k. group_members k fs) left
members-same g h es fs left same groups members = λ k. ap (group_members k) groups ∙ members k ∙ ap (λ (i : Grouping). rows_with i k left) (sym same)

-- there are no rows under a key that no group has
pub none-under : (k : KeyTree) (es : LiveGroups) → list_any (λ l. is_eq (key_order k l)) (keys_of es) ≡ false → group_members k es ≡ []
none-under k [] none = refl
none-under k (e ∷ es) none = by (is_eq (key_order k e.0)) none (none-under k es)
  where
    by : (b : Bool) → b || list_any (λ l. is_eq (key_order k l)) (keys_of es) ≡ false → (list_any (λ l. is_eq (key_order k l)) (keys_of es) ≡ false → group_members k es ≡ []) → rows_in (cond b (Some e.1) (lookup (is_at (key_order k)) es)) ≡ []
    by true none rest = cc
    by false none rest = rest none

-- if the result is `Ok`
pub ok-any : {A E P : Type 0} (r : Result A E) → P → OnOk r P
ok-any (Ok a) p = p
ok-any (Err e) p = tt

pub ok-then : {A E : Type 0} {P Q : A → Type 0} (r : Result A E) → IfOk r P → ((x : A) → P x → Q x) → IfOk r Q
ok-then (Ok a) p f = f a p
ok-then (Err e) p f = tt
