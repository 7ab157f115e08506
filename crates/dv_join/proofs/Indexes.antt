-- Rows under keys: an index after a change of them, and the rows under some of the keys.
use Rattle.std.specs.Prelude.{◌≡◌, ◌<◌, ◌≤◌, Bool, true, false, ◌&&◌, ◌||◌, not, cond, List, [], ◌∷◌, filter, length, slice_get, Option, Some, None, refl}
use Rattle.std.proofs.Common.{ap, arith, sym, ◌∙◌}
use Rattle.std.proofs.lemmas.List.Elements.{filter_agree}
use Rattle.std.proofs.lemmas.Map.Keys.{IsDistinct-from_sorted, sorted_head}
use Rattle.std.proofs.lemmas.Map.Made.{update_all_none}
use Rattle.std.specs.declared.cmp.Ordering.TheVariants.{Less}
use Rattle.std.specs.BTreeMap.{IsFromIterResult, is_at}
use Rattle.std.specs.BTreeSet.{BTreeSet, union}
use Rattle.std.specs.Cmp.{Equal-is, eq_by_cmp_equiv}
use Rattle.std.specs.List.{AllByRecursion, list_any}
use Rattle.std.specs.List.Sorted.{IsStrictlySortedBy}
use Rattle.std.specs.Map.{keys_of, lookup}
use Rattle.std.specs.Option.{unwrap_or}
use Rattle.std.specs.Ordering.{eq_by_cmp, is_eq}
use Rattle.std.specs.Set.{sorted_merge}
use Rattle.dv_value.specs.Tree.{Field}
use Rattle.dv_order.specs.Key.{KeyTree, key_order}
use Rattle.dv_order.specs.Inner.KeyLaws.{key_order_total}
use Rattle.dv_change.specs.declared.change.Change.{Change}
use Rattle.dv_change.specs.Changes.{Positioned, at, with_change}
use Rattle.dv_change.specs.Inner.Changes.{IsExactChange, IsPositioned, position_changed, row_in}
use Rattle.dv_change.specs.Positions.{PosTree}
use Rattle.dv_join.specs.declared.index.RowsByKey.{RowsByKey}
use Rattle.dv_join.specs.Inner.Indexed.{IsJoinIndexOf, has_any, moved_in_index, under}
use Rattle.dv_join.specs.Inner.Listed.{with_each_row}
use Rattle.dv_join.specs.Inner.Turning.{if_any}
use Rattle.dv_join.proofs.Rows.{none-passing, passing-changed, with_all-passing}

-- ---- keys

-- whether a key is one of these
abbrev pub is_one_of : List KeyTree → KeyTree → Bool
is_one_of keys k = list_any (λ m. is_eq (key_order k m)) keys

-- a key that is the first of ascending ones isn't among the others
pub none-again : (k m : KeyTree) (ms : List KeyTree) → IsStrictlySortedBy key_order (m ∷ ms) → is_eq (key_order k m) ≡ true → is_one_of ms k ≡ false
none-again k m ms sorted same = none-below ms (sorted_head key_order m ms sorted)
  where
    none-below : (ns : List KeyTree) → AllByRecursion (λ n. key_order m n ≡ Less) ns → is_one_of ns k ≡ false
    none-below [] all = refl
    none-below (n ∷ ns) all =
        let below : key_order k n ≡ Less = key_order_total.congr k m n ((Equal-is (key_order k m)).0 same) ∙ all.0 in
        ap (λ r. is_eq r || is_one_of ns k) below ∙ none-below ns all.1

-- a change under one more key
pub one-key : {A : Type 0} (f : A → A) (old new : A) (here rest : Bool) → new ≡ cond here (f old) old → (here ≡ true → rest ≡ false) → cond rest (f new) new ≡ cond (here || rest) (f old) old
one-key f old new true rest e never = ap (λ b. cond b (f new) new) (never refl) ∙ e
one-key f old new false rest e never = ap (λ a. cond rest (f a) a) e

-- something is removed under some keys, and then something is put under others
pub exchanged-under : {A : Type 0} (goes comes : A → A) (old between new : A) (had has : Bool) → between ≡ cond (had && not has) (goes old) old → new ≡ cond has (comes between) between → new ≡ cond has (comes old) (cond had (goes old) old)
exchanged-under goes comes old between new true true went came = came ∙ ap comes went
exchanged-under goes comes old between new true false went came = came ∙ went
exchanged-under goes comes old between new false true went came = came ∙ ap comes went
exchanged-under goes comes old between new false false went came = came ∙ went

-- equal keys have the same rows
pub under-like : (k l : KeyTree) (index : RowsByKey) → is_eq (key_order k l) ≡ true → under k index ≡ under l index
under-like k l index same = ap (λ o. unwrap_or o []) (there index.under.entries)
  where
    there : (es : List (KeyTree × Positioned)) → lookup (is_at (key_order k)) es ≡ lookup (is_at (key_order l)) es
    there [] = refl
    there (e ∷ es) = λ i. cond ((eq_by_cmp_equiv key_order_total).congr k l e.0 same i) (Some e.1) (there es i)

-- ---- one key

pub under-put : {A : Type 0} (b : Bool) (v : A) (o : Option A) (none : A) → unwrap_or (cond b (Some v) o) none ≡ cond b v (unwrap_or o none)
under-put true v o none = refl
under-put false v o none = refl

pub under-gone : {A : Type 0} (b : Bool) (o : Option A) (none : A) → unwrap_or (cond b None o) none ≡ cond b none (unwrap_or o none)
under-gone true o none = refl
under-gone false o none = refl

-- there are no rows under a key
pub none-there : (b : Bool) (old : Positioned) → (b ≡ true → old ≡ []) → old ≡ cond b [] old
none-there true old e = e refl
none-there false old e = refl

-- the rows under a key are removed twice
pub gone-again : (b : Bool) (old taken new : Positioned) → new ≡ cond b [] taken → taken ≡ cond b [] old → new ≡ cond b [] old
gone-again true old taken new again once = again
gone-again false old taken new again once = again ∙ once

-- the rows under a key were taken out, and none are left
pub set-none : (f : Positioned → Positioned) (b : Bool) (old own taken : Positioned) → (b ≡ true → old ≡ own) → taken ≡ cond b [] old → f own ≡ [] → taken ≡ cond b (f old) old
set-none f true old own taken like e none = e ∙ sym none ∙ sym (ap f (like refl))
set-none f false old own taken like e none = e

-- some are left
pub set-some : (f : Positioned → Positioned) (b : Bool) (old own taken new : Positioned) → (b ≡ true → old ≡ own) → taken ≡ cond b [] old → new ≡ cond b (f own) taken → new ≡ cond b (f old) old
set-some f true old own taken new like e put = put ∙ sym (ap f (like refl))
set-some f false old own taken new like e put = put ∙ e

-- a tree that is built from entries in ascending order has the same rows under each key
pub under-packed : (old new : RowsByKey) → IsStrictlySortedBy key_order (keys_of old.under.entries) → IsFromIterResult key_order old.under.entries new.under → (k : KeyTree) → under k new ≡ under k old
under-packed old new sorted made k =
    ap (λ o. unwrap_or o []) (made.0 k ∙ update_all_none (eq_by_cmp_equiv key_order_total) (eq_by_cmp key_order) (λ x y. refl) old.under.entries k (IsDistinct-from_sorted key_order (keys_of old.under.entries) sorted))

-- ---- a change

pub index-changed : (has : KeyTree → List Field → Bool) (rows : Positioned) (change : Change) (before after : RowsByKey) (pos : PosTree) (old new : Option (List Field)) (had now : KeyTree → Bool)
    → IsPositioned rows → IsExactChange change → pos ≡ position_changed change → old ≡ at (position_changed change) rows → new ≡ row_in change
    → ((k : KeyTree) → had k ≡ if_any (has k) old) → ((k : KeyTree) → now k ≡ if_any (has k) new)
    → ((k : KeyTree) → under k after ≡ moved_in_index pos (had k) new (now k) (under k before))
    → IsJoinIndexOf has rows before → IsJoinIndexOf has (with_change rows change) after
index-changed has rows change before after pos old new had now are exact place went came had-is now-is exchanged is = λ k.
    let had-it : had k ≡ if_any (has k) (at (position_changed change) rows) = had-is k ∙ ap (if_any (has k)) went in
    let has-it : now k ≡ if_any (has k) (row_in change) = now-is k ∙ ap (if_any (has k)) came in
    exchanged k ∙ (λ i. moved_in_index (place i) (had-it i) (came i) (has-it i) (is k i)) ∙ sym (passing-changed (has k) rows change are exact)

-- ---- the rows under some keys

-- rows with all those under each of the keys
abbrev pub all_under : (KeyTree → Positioned) → List KeyTree → Positioned → Positioned
all_under f [] es = es
all_under f (k ∷ ks) es = all_under f ks (with_each_row es (f k))

or-false : (a : Bool) → a ≡ a || false
or-false true = refl
or-false false = refl

or-assoc : (a b c : Bool) → (a || b) || c ≡ a || (b || c)
or-assoc true b c = refl
or-assoc false b c = refl

pub all_under-passing : (has : KeyTree → List Field → Bool) (rows : Positioned) (f : KeyTree → Positioned) → IsPositioned rows → ((k : KeyTree) → f k ≡ filter (λ e. has k e.1) rows) → (ks : List KeyTree) (test : List Field → Bool)
    → all_under f ks (filter (λ e. test e.1) rows) ≡ filter (λ e. test e.1 || has_any has ks e.1) rows
all_under-passing has rows f are is [] test = filter_agree (λ e. test e.1) (λ e. test e.1 || false) (λ e. or-false (test e.1)) rows
all_under-passing has rows f are is (k ∷ ks) test =
    ap (λ es. all_under f ks (with_each_row (filter (λ e. test e.1) rows) es)) (is k)
    ∙ ap (all_under f ks) (with_all-passing test (has k) rows are)
    ∙ all_under-passing has rows f are is ks (λ d. test d || has k d)
    ∙ filter_agree (λ e. (test e.1 || has k e.1) || has_any has ks e.1) (λ e. test e.1 || (has k e.1 || has_any has ks e.1)) (λ e. or-assoc (test e.1) (has k e.1) (has_any has ks e.1)) rows

-- ---- the rows under one key, and under none

pub no-keys : (ks : List KeyTree) → (0 < length ks → false ≡ true) → ks ≡ []
no-keys [] none = refl
no-keys (k ∷ ks) none = absurd (let same : false ≡ true = none (omega arith) in cc)

pub key-alone : (ks : List KeyTree) (k : KeyTree) → slice_get ks 0 ≡ Some k → length ks ≤ 1 → ks ≡ k ∷ []
key-alone [] k first most = absurd cc
key-alone (m ∷ []) k first most = let same : m ≡ k = cc in ap (λ n. n ∷ []) same
key-alone (m ∷ n ∷ ks) k first most = absurd (omega (arith, most))

-- the keys of a set and of one without keys
pub union-none : (s t : BTreeSet KeyTree) → t.keys ≡ [] → union key_order s t ≡ s.keys
union-none s t none = ap (λ ms. sorted_merge key_order true s.keys ms) none ∙ by s.keys
  where
    by : (ks : List KeyTree) → sorted_merge key_order true ks [] ≡ ks
    by [] = refl
    by (k ∷ ks) = refl

module _ (has : KeyTree → List Field → Bool) (rows : Positioned) where
  pub having-none : (ks : List KeyTree) → ks ≡ [] → [] ≡ filter (λ e. has_any has ks e.1) rows
  having-none ks none = none-passing rows ∙ ap (λ ms. filter (λ e. has_any has ms e.1) rows) (sym none)

  pub having-one : (ks : List KeyTree) (k : KeyTree) (index : RowsByKey) → IsJoinIndexOf has rows index → ks ≡ k ∷ [] → under k index ≡ filter (λ e. has_any has ks e.1) rows
  having-one ks k index is one = is k ∙ filter_agree (λ e. has k e.1) (λ e. has k e.1 || false) (λ e. or-false (has k e.1)) rows ∙ ap (λ ms. filter (λ e. has_any has ms e.1) rows) (sym one)
