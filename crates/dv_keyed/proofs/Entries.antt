-- The pairs of keys, each with its `_id`s, when those of one key change.
use Rattle.std.proofs.Common.{◌≡◌, ◌∙◌, List, [], ◌∷◌, map, refl, ap, sym, Bool, true, false, cond, not, ◌||◌, ◌&&◌, Option, Some, None}
use Rattle.std.specs.List.{list_any, AllByRecursion}
use Rattle.std.specs.List.Sorted.{IsStrictlySortedBy}
use Rattle.std.specs.Map.{keys_of, lookup}
use Rattle.std.specs.BTreeMap.{BTreeMap, WritesThrough, get, is_at}
use Rattle.std.specs.declared.cmp.Ordering.{Ordering}
use Rattle.std.specs.declared.cmp.Ordering.TheVariants.{Less, Equal, Greater}
use Rattle.std.specs.Ordering.{is_eq}
use Rattle.std.proofs.lemmas.List.Folds.{list_any-append}
use Rattle.std.proofs.lemmas.Map.Keys.{sorted_head, sorted_tail}
use Rattle.std.proofs.Math.Bool.{or-false}
use Rattle.dv_order.specs.Key.{KeyTree, key_order}
use Rattle.dv_order.specs.Inner.KeyLaws.{key_order_total, equal-back, equal-from}
use Rattle.dv_keyed.specs.Inner.Ids.{has_in, is_another}
use Rattle.dv_keyed.specs.Inner.Keys.{has_key}
use Rattle.dv_keyed.specs.Inner.Pairs.{Pair, has_another_at, has_pair, pairs_of}
use Rattle.dv_keyed.specs.Inner.ListLaws.{any-and}
use Rattle.dv_value.specs.Inner.ListLaws.{any-map}

abbrev pub Entry : Type 0
Entry = KeyTree × List KeyTree

-- some `_id` under a key passes a test
abbrev pub some-at : KeyTree → (KeyTree → Bool) → List Pair → Bool
some-at k test ps = list_any (λ p. is_eq (key_order k p.0) && test p.1) ps

abbrev pub some-in : (KeyTree → Bool) → Option (List KeyTree) → Bool
some-in test None = false
some-in test (Some ids) = list_any test ids

-- the pairs of one key
at-entry : (k : KeyTree) (test : KeyTree → Bool) (e : Entry) (es : List Entry) → some-at k test (pairs_of (e ∷ es)) ≡ (is_eq (key_order k e.0) && list_any test e.1) || some-at k test (pairs_of es)
at-entry k test e es =
    list_any-append _ (map (λ id. (e.0, id)) e.1) (pairs_of es)
    ∙ ap (λ b. b || some-at k test (pairs_of es)) (any-map _ (λ id. (e.0, id)) e.1 ∙ any-and (is_eq (key_order k e.0)) test e.1)

none-later : (k : KeyTree) (test : KeyTree → Bool) (es : List Entry) → AllByRecursion (λ l. key_order k l ≡ Less) (keys_of es) → some-at k test (pairs_of es) ≡ false
none-later k test [] h = refl
none-later k test (e ∷ es) h = at-entry k test e es ∙ ap (λ o. (is_eq o && list_any test e.1) || some-at k test (pairs_of es)) h.0 ∙ none-later k test es h.1

same-later : (k l : KeyTree) (ks : List KeyTree) → key_order k l ≡ Equal → AllByRecursion (λ m. key_order l m ≡ Less) ks → AllByRecursion (λ m. key_order k m ≡ Less) ks
same-later k l [] e h = tt
same-later k l (m ∷ ks) e h = (key_order_total.congr k l m e ∙ h.0, same-later k l ks e h.1)

-- some `_id` under a key passes a test exactly if one of those found under the key does
pub some-found : (k : KeyTree) (test : KeyTree → Bool) (es : List Entry) → IsStrictlySortedBy key_order (keys_of es) → some-at k test (pairs_of es) ≡ some-in test (lookup (is_at (key_order k)) es)
some-found k test [] h = refl
some-found k test (e ∷ es) h = at-entry k test e es ∙ one (key_order k e.0) refl (some-found k test es (sorted_tail key_order e.0 (keys_of es) h))
  where
    one : (o : Ordering) → key_order k e.0 ≡ o → some-at k test (pairs_of es) ≡ some-in test (lookup (is_at (key_order k)) es) → (is_eq o && list_any test e.1) || some-at k test (pairs_of es) ≡ some-in test (cond (is_eq o) (Some e.1) (lookup (is_at (key_order k)) es))
    one Less f later = later
    one Greater f later = later
    one Equal f later =
        ap (λ b. list_any test e.1 || b) (none-later k test es (same-later k e.0 (keys_of es) f (sorted_head key_order e.0 (keys_of es) h))) ∙ or-false (list_any test e.1)

-- an index has the pair of a key and an `_id` exactly if the `_id` is among those found under the key
pub pair-found : (k i : KeyTree) (es : List Entry) → IsStrictlySortedBy key_order (keys_of es) → has_pair k i (pairs_of es) ≡ has_in i (lookup (is_at (key_order k)) es)
pair-found k i es h = some-found k (λ id. is_eq (key_order i id)) es h ∙ by (lookup (is_at (key_order k)) es)
  where
    by : (o : Option (List KeyTree)) → some-in (λ id. is_eq (key_order i id)) o ≡ has_in i o
    by None = refl
    by (Some ids) = refl

-- another `_id` under a key, in a pair that is not in `gone`, is found under the key, and is not found there in `gone`
pub another-found : (k id : KeyTree) (gone es : List Entry) → IsStrictlySortedBy key_order (keys_of gone) → IsStrictlySortedBy key_order (keys_of es) → has_another_at k id (pairs_of gone) (pairs_of es) ≡ some-in (is_another id (lookup (is_at (key_order k)) gone)) (lookup (is_at (key_order k)) es)
another-found k id gone es sorted h =
    ap (λ t. some-at k t (pairs_of es)) (λ j i. not (is_eq (key_order id i)) && not (pair-found k i gone sorted j)) ∙ some-found k (is_another id (lookup (is_at (key_order k)) gone)) es h

lookup-same : (k l : KeyTree) (es : List Entry) → key_order k l ≡ Equal → lookup (is_at (key_order k)) es ≡ lookup (is_at (key_order l)) es
lookup-same k l es e = ap (λ t. lookup t es) (λ j m. is_eq (key_order_total.congr k l m e j))

and-true : (a : Bool) → a ≡ a && true
and-true true = refl
and-true false = refl

-- ---- a map that has something else under one key
module _ (m n : BTreeMap KeyTree (List KeyTree)) (key : KeyTree) (k i : KeyTree) (before : IsStrictlySortedBy key_order (keys_of m.entries)) (behind : IsStrictlySortedBy key_order (keys_of n.entries)) where
  changed : (w : Option (List KeyTree)) → ((q : KeyTree) → get key_order n q ≡ cond (is_at (key_order key) q) w (get key_order m q)) → (b : Bool) → is_eq (key_order k key) ≡ b → has_pair k i (pairs_of n.entries) ≡ cond b (has_in i w) (has_pair k i (pairs_of m.entries))
  changed w is b e =
      pair-found k i n.entries behind ∙ ap (has_in i) (is k ∙ ap (λ t. cond t w (get key_order m k)) (equal-back key k ∙ e)) ∙ at b
    where
      at : (t : Bool) → has_in i (cond t w (get key_order m k)) ≡ cond t (has_in i w) (has_pair k i (pairs_of m.entries))
      at true = refl
      at false = sym (pair-found k i m.entries before)

  under : is_eq (key_order k key) ≡ true → has_pair k i (pairs_of m.entries) ≡ has_in i (get key_order m key)
  under e = pair-found k i m.entries before ∙ ap (has_in i) (lookup-same k key m.entries (equal-from (key_order k key) e))

  -- an `_id` is added under the key
  pub pair-added : (id : KeyTree) (w : List KeyTree) → ((q : KeyTree) → get key_order n q ≡ cond (is_at (key_order key) q) (Some w) (get key_order m q)) → has_key i w ≡ has_in i (get key_order m key) || is_eq (key_order i id)
      → has_pair k i (pairs_of n.entries) ≡ has_pair k i (pairs_of m.entries) || (is_eq (key_order k key) && is_eq (key_order i id))
  pair-added id w is more = by (is_eq (key_order k key)) refl
    where
      by : (b : Bool) → is_eq (key_order k key) ≡ b → has_pair k i (pairs_of n.entries) ≡ has_pair k i (pairs_of m.entries) || (b && is_eq (key_order i id))
      by true e = changed (Some w) is true e ∙ more ∙ ap (λ c. c || is_eq (key_order i id)) (sym (under e))
      by false e = changed (Some w) is false e ∙ sym (or-false (has_pair k i (pairs_of m.entries)))

  -- the `_id`s under the key are written again
  pub pair-written : (old w : List KeyTree) → Some old ≡ get key_order m key → WritesThrough key_order (key_order key) m w n → (id : KeyTree) → has_key i w ≡ has_key i old || is_eq (key_order i id) → has_pair k i (pairs_of n.entries) ≡ has_pair k i (pairs_of m.entries) || (is_eq (key_order k key) && is_eq (key_order i id))
  pair-written old w there writes id more = pair-added id w (writes.3 (rw (← there) refl)).0 (more ∙ ap (λ o. has_in i o || is_eq (key_order i id)) there)

  pub pair-kept : (old w : List KeyTree) → Some old ≡ get key_order m key → WritesThrough key_order (key_order key) m w n → has_key i w ≡ has_key i old → has_pair k i (pairs_of n.entries) ≡ has_pair k i (pairs_of m.entries)
  pair-kept old w there writes same = by (is_eq (key_order k key)) refl
    where
      is : (q : KeyTree) → get key_order n q ≡ cond (is_at (key_order key) q) (Some w) (get key_order m q)
      is = (writes.3 (rw (← there) refl)).0

      by : (b : Bool) → is_eq (key_order k key) ≡ b → has_pair k i (pairs_of n.entries) ≡ has_pair k i (pairs_of m.entries)
      by true e = changed (Some w) is true e ∙ same ∙ ap (has_in i) there ∙ sym (under e)
      by false e = changed (Some w) is false e

  -- an `_id` is removed under the key, or is not there
  pub pair-taken : (id : KeyTree) (w : Option (List KeyTree)) → ((q : KeyTree) → get key_order n q ≡ cond (is_at (key_order key) q) w (get key_order m q)) → has_in i w ≡ has_in i (get key_order m key) && not (is_eq (key_order i id))
      → has_pair k i (pairs_of n.entries) ≡ has_pair k i (pairs_of m.entries) && not (is_eq (key_order k key) && is_eq (key_order i id))
  pair-taken id w is less = by (is_eq (key_order k key)) refl
    where
      by : (b : Bool) → is_eq (key_order k key) ≡ b → has_pair k i (pairs_of n.entries) ≡ has_pair k i (pairs_of m.entries) && not (b && is_eq (key_order i id))
      by true e = changed w is true e ∙ less ∙ ap (λ c. c && not (is_eq (key_order i id))) (sym (under e))
      by false e = changed w is false e ∙ and-true (has_pair k i (pairs_of m.entries))

  -- an `_id` under a key that isn't there yet
  pub pair-new : (copy id_copy id : KeyTree) (w : List KeyTree) → copy ≡ key → id_copy ≡ id → w ≡ id_copy ∷ [] → ((q : KeyTree) → get key_order n q ≡ cond (is_at (key_order copy) q) (Some w) (get key_order m q)) → has_pair key i (pairs_of m.entries) ≡ false
      → has_pair k i (pairs_of n.entries) ≡ has_pair k i (pairs_of m.entries) || (is_eq (key_order k key) && is_eq (key_order i id))
  pair-new copy id_copy id w same same_id alone is none =
      pair-added id w (λ q. is q ∙ ap (λ l. cond (is_at (key_order l) q) (Some w) (get key_order m q)) same)
      (ap (has_key i) (alone ∙ ap (λ x. x ∷ []) same_id) ∙ or-false (is_eq (key_order i id)) ∙ ap (λ b. b || is_eq (key_order i id)) (sym none ∙ pair-found key i m.entries before))

  -- under a key that isn't there
  pub pair-missing : (id : KeyTree) → None ≡ get key_order m key → has_pair k i (pairs_of m.entries) ≡ has_pair k i (pairs_of m.entries) && not (is_eq (key_order k key) && is_eq (key_order i id))
  pair-missing id none = by (is_eq (key_order k key)) refl
    where
      by : (b : Bool) → is_eq (key_order k key) ≡ b → has_pair k i (pairs_of m.entries) ≡ has_pair k i (pairs_of m.entries) && not (b && is_eq (key_order i id))
      by true e = let gone = under e ∙ ap (has_in i) (sym none) in gone ∙ ap (λ c. c && not (is_eq (key_order i id))) (sym gone)
      by false e = and-true (has_pair k i (pairs_of m.entries))

  -- the `_id`s under the key are written again, one fewer
  pub pair-thinned : (old w : List KeyTree) → Some old ≡ get key_order m key → WritesThrough key_order (key_order key) m w n → (id : KeyTree) → has_key i w ≡ has_key i old && not (is_eq (key_order i id)) → has_pair k i (pairs_of n.entries) ≡ has_pair k i (pairs_of m.entries) && not (is_eq (key_order k key) && is_eq (key_order i id))
  pair-thinned old w there writes id less = pair-taken id (Some w) (writes.3 (rw (← there) refl)).0 (less ∙ ap (λ o. has_in i o && not (is_eq (key_order i id))) there)

-- and then the key is removed, if no `_id` is left
pub pair-emptied : (m l n : BTreeMap KeyTree (List KeyTree)) (key k i : KeyTree) → IsStrictlySortedBy key_order (keys_of m.entries) → IsStrictlySortedBy key_order (keys_of n.entries) → (old w : List KeyTree) → Some old ≡ get key_order m key → WritesThrough key_order (key_order key) m w l → w ≡ [] → ((q : KeyTree) → get key_order n q ≡ cond (is_at (key_order key) q) None (get key_order l q))
    → (id : KeyTree) → has_key i w ≡ has_key i old && not (is_eq (key_order i id)) → has_pair k i (pairs_of n.entries) ≡ has_pair k i (pairs_of m.entries) && not (is_eq (key_order k key) && is_eq (key_order i id))
pair-emptied m l n key k i before behind old w there writes empty is id less =
    pair-taken m n key k i before behind id None (λ q. is q ∙ ap (cond (is_at (key_order key) q) None) ((writes.3 (rw (← there) refl)).0 q) ∙ twice (is_at (key_order key) q) (get key_order m q))
    (ap (has_key i) (sym empty) ∙ less ∙ ap (λ o. has_in i o && not (is_eq (key_order i id))) there)
  where
    twice : (b : Bool) (o : Option (List KeyTree)) → cond b None (cond b (Some w) o) ≡ cond b None o
    twice true o = refl
    twice false o = refl
