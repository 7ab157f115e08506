-- Rows of a view among which are all that match a filter, by the keys of their `_id`s.
use Rattle.std.proofs.Common.{◌≡◌, ◌∙◌, ◌&&◌, ◌||◌, not, ℕ, zero, suc, Bool, true, false, cond, List, [], ◌∷◌, ◌++◌, map, filter, reverse, Option, None, Some, codes, slice_get, refl, ap, sym, append-nil}
use Rattle.std.proofs.lemmas.List.{reverse-append}
use Rattle.std.proofs.lemmas.List.Elements.{filter-append}
use Rattle.std.proofs.Math.Bool.{or-false}
use Rattle.std.specs.List.{AllByRecursion}
use Rattle.std.specs.BTreeMap.Range.{range_contains}
use Rattle.std.specs.Ordering.{is_eq, is_le, is_lt, ordering_reverse}
use Rattle.std.specs.declared.cmp.Ordering.{Ordering}
use Rattle.std.specs.declared.cmp.Ordering.TheVariants.{Less, Equal, Greater}
use Rattle.std.specs.declared.ops.Bound.TheVariants.{Included}
use Rattle.dv_value.specs.View.{tree}
use Rattle.dv_value.specs.declared.value.Value.{Value}
use Rattle.dv_value.specs.Tree.{Tree, Field}
use Rattle.dv_order.specs.Key.{KeyTree, key_order, value}
use Rattle.dv_order.specs.Inner.KeyLaws.{key_order_total}
use Rattle.dv_order.specs.Order.{canon}
use Rattle.dv_candidates.specs.Candidates.{or_null}
use Rattle.dv_path.specs.LeafKeys.{is_key_of, is_leaf_key, is_some_key, leaf_values}
use Rattle.dv_path.specs.declared.direction.Direction.{Direction}
use Rattle.dv_path.specs.declared.direction.Direction.TheVariants.{Ascending, Descending}
use Rattle.dv_match.specs.Filter.{Condition, Members, among, equal}
use Rattle.dv_match.specs.Match.{matches}
use Rattle.dv_coll.specs.Collection.{HasId, id_key}
use Rattle.dv_keyed.specs.Choice.{chosen}
use Rattle.dv_keyed.specs.Index.{IndexForm, id_form}
use Rattle.dv_keyed.specs.Inner.Index.{IndexTree, form_of}
use Rattle.dv_keyed.specs.Inner.Interval.{is_in_all}
use Rattle.dv_keyed.specs.Inner.Keys.{has_key}
use Rattle.dv_keyed.specs.Within.{has_within}
use Rattle.dv_keyed.specs.Inner.Within.{covers}
use Rattle.dv_keyed.specs.Inner.ListLaws.{paths-of-forms}
use Rattle.dv_index.specs.Inner.InDirection.{in_direction}
use Rattle.dv_index.specs.Inner.IdLaws.{MatchesAreWithin, OnlyKeysAreWithin, KeysAreWithin, leaves-id, id-covered}
use Rattle.dv_catalog.specs.Inner.Equalities.{equals_in}

abbrev Rows : Type 0
Rows = List (List Field)

-- ---- the path `_id` leads to one value

pub id_in_all : OnlyKeysAreWithin → (form : Members) (d : List Field) → HasId d → matches form d ≡ true → is_in_all (id_key d) (codes "_id" ∷ []) form ≡ true
unfolding is_leaf_key leaf_values
id_in_all law form [] h e = absurd h
id_in_all law form (f ∷ fs) h e =
    law form (codes "_id" ∷ []) (f ∷ fs) f.1 (λ l leaf. sym (or-false (is_key_of l f.1)) ∙ sym (ap (λ cs. is_some_key l (map or_null cs)) (leaves-id f fs h)) ∙ leaf) e

-- ---- what is requested of the index on `_id`

only-path : (p q : List (List ℕ)) (n : ℕ) → slice_get (p ∷ []) n ≡ Some q → q ≡ p
only-path p q zero e = cc
only-path p q (suc n) e = absurd cc

-- a key that the bounds cover is the key of one of the values, if the bounds are equalities
covered-value : (c : Condition) (vs : List Tree) (k : KeyTree) → equals_in (Some (zero, c)) ≡ Some vs → covers c k ≡ true → is_some_key k vs ≡ true
covered-value (equal v) vs k e h = let same : v ∷ [] ≡ vs = cc in ap (is_some_key k) (sym same) ∙ or-false (is_key_of k v) ∙ h
covered-value (among ws) vs k e h = let same : ws ≡ vs = cc in ap (is_some_key k) (sym same) ∙ h
covered-value c vs k e h = absurd cc

pub equal_asked : MatchesAreWithin → KeysAreWithin → (form : Members) (xs : List IndexTree) (vs : List Tree) → map form_of xs ≡ id_form ∷ [] → equals_in (chosen form (map (λ (x : IndexTree). x.path) xs)) ≡ Some vs
    → (d : List Field) → HasId d → matches form d ≡ true → is_some_key (id_key d) vs ≡ true
equal_asked within keys form xs vs are asked d h e = by (chosen form paths) refl asked
  where
    paths : List (List (List ℕ))
    paths = map (λ (x : IndexTree). x.path) xs

    one : paths ≡ (codes "_id" ∷ []) ∷ []
    one = paths-of-forms xs ∙ ap (map (λ (x : IndexForm). x.path)) are

    by : (p : Option (ℕ × Condition)) → chosen form paths ≡ p → equals_in p ≡ Some vs → is_some_key (id_key d) vs ≡ true
    by None is none = absurd cc
    by (Some (n, c)) is some =
        let bounds = within form paths n c is in
        let path : bounds.0 ≡ codes "_id" ∷ [] = only-path (codes "_id" ∷ []) bounds.0 n (ap (λ ps. slice_get ps n) (sym one) ∙ bounds.1) in
        covered-value c vs (id_key d) some (sym (id-covered keys c d h) ∙ ap (λ p. has_within c p d) (sym path) ∙ bounds.2 d e)

-- a key is among the keys of values exactly if it is the key of one of them
pub among_values : (k : KeyTree) (vs : List Value) → has_key k (map (λ v. value (canon (tree v))) vs) ≡ is_some_key k (map tree vs)
among_values k [] = refl
among_values k (v ∷ vs) = ap (λ b. is_key_of k (tree v) || b) (among_values k vs)

-- a key is between two ends that are one key exactly if it is equal to this key
pub at_key : (k l : KeyTree) → range_contains key_order (Included l) (Included l) k ≡ is_eq (key_order k l)
at_key k l = between (key_order l k) ∙ ap is_eq (key_order_total.antisymm l k) ∙ turned (key_order k l)
  where
    between : (o : Ordering) → (is_le o && not (is_lt o)) ≡ is_eq o
    between Less = refl
    between Equal = refl
    between Greater = refl

    turned : (o : Ordering) → is_eq (ordering_reverse o) ≡ is_eq o
    turned Less = refl
    turned Equal = refl
    turned Greater = refl

-- ---- what holds of each row

pub each : (P : List Field → Type 0) → ((d : List Field) → P d) → (ds : Rows) → AllByRecursion P ds
each P holds [] = tt
each P holds (d ∷ ds) = (holds d, each P holds ds)

pub each_identified : (P : List Field → Type 0) → ((d : List Field) → HasId d → P d) → (ds : Rows) → AllByRecursion HasId ds → AllByRecursion P ds
each_identified P holds [] all = tt
each_identified P holds (d ∷ ds) all = (holds d all.0, each_identified P holds ds all.1)

-- ---- rows in a direction

module _ (test inside : List Field → Bool) where
  kept-inside : (ds : Rows) → AllByRecursion (λ d. test d ≡ true → inside d ≡ true) ds → filter test (filter inside ds) ≡ filter test ds
  kept-inside [] all = refl
  kept-inside (d ∷ ds) all = by (inside d) (test d) refl refl (kept-inside ds all.1)
    where
      others : Rows
      others = filter inside ds

      by : (a b : Bool) → inside d ≡ a → test d ≡ b → filter test others ≡ filter test ds → filter test (cond a (d ∷ others) others) ≡ cond b (d ∷ filter test ds) (filter test ds)
      by true true e f rest = ap (λ x. cond x (d ∷ filter test others) (filter test others)) f ∙ ap (λ (xs : Rows). d ∷ xs) rest
      by true false e f rest = ap (λ x. cond x (d ∷ filter test others) (filter test others)) f ∙ rest
      by false true e f rest = absurd (let there = all.0 f in cc)
      by false false e f rest = rest

  filter-reverse : (ds : Rows) → filter test (reverse ds) ≡ reverse (filter test ds)
  filter-reverse [] = refl
  filter-reverse (d ∷ ds) =
      ap (filter test) (reverse-append (d ∷ []) ds)
      ∙ filter-append test (reverse ds) (d ∷ [])
      ∙ ap (λ (xs : Rows). xs ++ filter test (d ∷ [])) (filter-reverse ds)
      ∙ by (test d)
    where
      by : (b : Bool) → reverse (filter test ds) ++ cond b (d ∷ []) [] ≡ reverse (cond b (d ∷ filter test ds) (filter test ds))
      by true = sym (reverse-append (d ∷ []) (filter test ds))
      by false = append-nil (reverse (filter test ds))

  filter-directed : (direction : Direction) (ds : Rows) → filter test (in_direction direction ds) ≡ in_direction direction (filter test ds)
  filter-directed Ascending ds = refl
  filter-directed Descending ds = filter-reverse ds

  pub kept_directed : (direction : Direction) (ds : Rows) → AllByRecursion (λ d. test d ≡ true → inside d ≡ true) ds → filter test (in_direction direction (filter inside ds)) ≡ in_direction direction (filter test ds)
  kept_directed direction ds all = filter-directed direction (filter inside ds) ∙ ap (in_direction direction) (kept-inside ds all)

  none-match : (ds : Rows) → AllByRecursion (λ d. test d ≡ true → inside d ≡ true) ds → ((d : List Field) → inside d ≡ false) → filter test ds ≡ []
  none-match [] all none = refl
  none-match (d ∷ ds) all none = by (test d) refl (none-match ds all.1 none)
    where
      by : (b : Bool) → test d ≡ b → filter test ds ≡ [] → cond b (d ∷ filter test ds) (filter test ds) ≡ []
      by true e rest = absurd (let there = all.0 e in let away = none d in cc)
      by false e rest = rest

  none-directed : (direction : Direction) → [] ≡ in_direction {X = List Field} direction []
  none-directed Ascending = refl
  none-directed Descending = refl

  pub nothing_directed : (direction : Direction) (ds : Rows) → AllByRecursion (λ d. test d ≡ true → inside d ≡ true) ds → ((d : List Field) → inside d ≡ false) → [] ≡ in_direction direction (filter test ds)
  nothing_directed direction ds all none = none-directed direction ∙ ap (in_direction direction) (sym (none-match ds all none))
