-- The rows of groups, at their keys: which row is at each key, and in which order.
use Rattle.std.specs.Prelude.{◌≡◌, ◌||◌, Bool, true, false, cond, if◌then◌else◌, List, [], ◌∷◌, length, map, Option, None, Some, refl}
use Rattle.std.proofs.Common.{ap, sym, ◌∙◌}
use Rattle.std.specs.declared.cmp.Ordering.{Ordering}
use Rattle.std.specs.declared.cmp.Ordering.TheVariants.{Less, Equal, Greater}
use Rattle.std.specs.Cmp.{Equal-is, alike_right}
use Rattle.std.specs.Ordering.{is_eq, ordering_then}
use Rattle.std.specs.List.{AllByRecursion, list_any}
use Rattle.std.specs.List.Sorted.{IsStrictlySortedBy}
use Rattle.std.specs.Map.{keys_of}
use Rattle.dv_value.specs.Tree.{Tree}
use Rattle.dv_order.specs.Order.{canon, order}
use Rattle.dv_order.specs.Inner.SameOrder.{equal_is_canon, order_of_canon}
use Rattle.dv_order.specs.Inner.TotalOrder.{order_total}
use Rattle.dv_order.specs.Key.{KeyTree, key_order, value}
use Rattle.dv_order.specs.Inner.KeyLaws.{key_order_total}
use Rattle.dv_row.specs.Row.{Row}
use Rattle.dv_change.specs.declared.position.Part.TheVariants.{Up}
use Rattle.dv_change.specs.Changes.{Positioned, at, forget}
use Rattle.dv_change.specs.Inner.Changes.{HaveOneLength, IsPositioned}
use Rattle.dv_change.specs.Positions.{IsExact, PosTree, pos_order}
use Rattle.dv_gather.specs.Inner.GroupLaws.{any_key_of, itself, keys_ascend}
use Rattle.dv_gather.specs.Grouping.{Grouping, group_row, key_in, key_of_group, keyed, row_shown}
use Rattle.dv_gather.specs.Groups as groups
use Rattle.dv_gather.specs.Groups.{Keyed, groups_of, documents_under_key}
use Rattle.dv_group.specs.Inner.Members.{row_has_key, row_key, rows_with}
use Rattle.dv_group.specs.Placed.{grouped_at}

-- ---- keys

-- if two values compare equal, a key equals both their keys or neither
alike : (k : KeyTree) (v w : Tree) → order v w ≡ Equal → is_eq (key_order k (value (canon v))) ≡ is_eq (key_order k (value (canon w)))
alike k v w e = ap (λ c. is_eq (key_order k (value c))) ((equal_is_canon v w).0 e)

-- keys that compare equal are equal to the same keys
pub beside : (k l m : KeyTree) → key_order k l ≡ Equal → is_eq (key_order k m) ≡ is_eq (key_order l m)
beside k l m e = ap is_eq (key_order_total.congr k l m e)

-- the position is a key alone
abbrev pub IsKeyPlace : PosTree → Type 0
IsKeyPlace p = (k : KeyTree) × (p ≡ Up k ∷ [])

-- positions of one part each are equal exactly if the parts are
pub one-part : (o : Ordering) → is_eq (ordering_then o Equal) ≡ is_eq o
one-part Less = refl
one-part Equal = refl
one-part Greater = refl

pub or-right : (a b : Bool) → b ≡ true → a || b ≡ true
or-right true b e = refl
or-right false b e = e

module _ (g : Grouping) where
  -- ---- the rows under a key

  same-test : (k : KeyTree) (v : Tree) → key_order k (value (canon v)) ≡ Equal → (d : Row) → is_eq (order v (key_in g d)) ≡ row_has_key g k d
  same-test k v e d = ap is_eq (sym (order_of_canon v (key_in g d))) ∙ sym (beside k (value (canon v)) (row_key g d) e)

  -- they are those that have it
  under-with : (k : KeyTree) (v : Tree) → key_order k (value (canon v)) ≡ Equal → (rows : Positioned) → documents_under_key v (map (keyed g) (forget rows)) ≡ forget (rows_with g k rows)
  under-with k v e [] = refl
  under-with k v e (r ∷ rows) = ap (λ b. if b then r.1 ∷ others else others) (same-test k v e r.1) ∙ by (row_has_key g k r.1) (under-with k v e rows)
    where
      others : List Row
      others = documents_under_key v (map (keyed g) (forget rows))

      by : (b : Bool) → others ≡ forget (rows_with g k rows) → (if b then r.1 ∷ others else others) ≡ forget (cond b (r ∷ rows_with g k rows) (rows_with g k rows))
      by true rest = ap (λ ds. r.1 ∷ ds) rest
      by false rest = rest

  none-with : (k : KeyTree) (rows : Positioned) → list_any (row_has_key g k) (forget rows) ≡ false → rows_with g k rows ≡ []
  none-with k [] none = refl
  none-with k (r ∷ rows) none = by (row_has_key g k r.1) none (none-with k rows)
    where
      by : (b : Bool) → b || list_any (row_has_key g k) (forget rows) ≡ false → (list_any (row_has_key g k) (forget rows) ≡ false → rows_with g k rows ≡ []) → cond b (r ∷ rows_with g k rows) (rows_with g k rows) ≡ []
      by true none rest = cc
      by false none rest = rest none

  any-keyed : (k : KeyTree) (ds : List Row) → list_any (λ d. is_eq (key_order k (value (canon d.0)))) (map (keyed g) ds) ≡ list_any (row_has_key g k) ds
  any-keyed k [] = refl
  any-keyed k (d ∷ ds) = ap (λ b. row_has_key g k d || b) (any-keyed k ds)

  -- ---- a key of some rows

  abbrev HasSome : List Row → Tree → Type 0
  HasSome ds v = list_any (λ d. is_eq (order v d.0)) (map (keyed g) ds) ≡ true

  -- the first row under it has it
  own-key : (v : Tree) (ds : List Row) → HasSome ds v → canon (key_of_group g (documents_under_key v (map (keyed g) ds))) ≡ canon v
  own-key v [] some = cc
  own-key v (d ∷ ds) some = by (is_eq (order v (key_in g d))) refl some (own-key v ds)
    where
      others : List Row
      others = documents_under_key v (map (keyed g) ds)

      by : (b : Bool) → is_eq (order v (key_in g d)) ≡ b → b || list_any (λ d. is_eq (order v d.0)) (map (keyed g) ds) ≡ true → (HasSome ds v → canon (key_of_group g others) ≡ canon v) → canon (key_of_group g (if b then d ∷ others else others)) ≡ canon v
      by true is some rest = sym ((equal_is_canon v (key_in g d)).0 ((Equal-is (order v (key_in g d))).0 is))
      by false is some rest = rest some

  own-shown : (v : Tree) (ds : List Row) → HasSome ds v → row_shown g (documents_under_key v (map (keyed g) ds)) ≡ Some (group_row g (documents_under_key v (map (keyed g) ds)))
  own-shown v [] some = cc
  own-shown v (d ∷ ds) some = by (is_eq (order v (key_in g d))) some (own-shown v ds)
    where
      others : List Row
      others = documents_under_key v (map (keyed g) ds)

      by : (b : Bool) → b || list_any (λ d. is_eq (order v d.0)) (map (keyed g) ds) ≡ true → (HasSome ds v → row_shown g others ≡ Some (group_row g others)) → row_shown g (if b then d ∷ others else others) ≡ Some (group_row g (if b then d ∷ others else others))
      by true some rest = refl
      by false some rest = rest some

  module _ (rows : Positioned) where
    abbrev docs : List Keyed
    docs = map (keyed g) (forget rows)

    abbrev keys : List Tree
    keys = groups.group_keys docs

    -- ---- the rows, one for each key

    abbrev as_made : Tree → PosTree × Row
    as_made v = (Up (value (canon (key_of_group g (documents_under_key v docs)))) ∷ [], group_row g (documents_under_key v docs))

    abbrev at_own : Tree → PosTree × Row
    at_own v = (Up (value (canon v)) ∷ [], group_row g (documents_under_key v docs))

    each-made : (ks : List Tree) → map (λ ds. (Up (value (canon (key_of_group g ds))) ∷ [], group_row g ds)) (map (λ k. documents_under_key k docs) ks) ≡ map as_made ks
    each-made [] = refl
    each-made (k ∷ ks) = ap (λ es. as_made k ∷ es) (each-made ks)

    each-own : (ks : List Tree) → AllByRecursion (HasSome (forget rows)) ks → map as_made ks ≡ map at_own ks
    each-own [] all = refl
    each-own (k ∷ ks) all = let own = own-key k (forget rows) all.0 in let rest = each-own ks all.1 in λ i. (Up (value (own i)) ∷ [], group_row g (documents_under_key k docs)) ∷ rest i

    each-some : (ks : List Tree) → ((v : Tree) → list_any (λ k. is_eq (order v k)) ks ≡ true → HasSome (forget rows) v) → AllByRecursion (HasSome (forget rows)) ks
    each-some [] from = tt
    each-some (k ∷ ks) from = (from k (ap (λ b. b || list_any (λ l. is_eq (order k l)) ks) (itself k)), each-some ks (λ v there. from v (or-right (is_eq (order v k)) (list_any (λ l. is_eq (order v l)) ks) there)))

    some : AllByRecursion (HasSome (forget rows)) keys
    some = each-some keys (λ v there. sym (any_key_of (λ w. is_eq (order v w)) (λ x y e. ap is_eq (alike_right order_total x y v e)) docs) ∙ there)

    at-own : grouped_at g rows ≡ map at_own keys
    unfolding grouped_at groups_of
    at-own = each-made keys ∙ each-own keys some

    -- ---- the row at a key

    module _ (k : KeyTree) where
      abbrev is_of : Tree → Bool
      is_of v = is_eq (key_order k (value (canon v)))

      abbrev shown : Option Row
      shown = row_shown g (forget (rows_with g k rows))

      at-each : (ks : List Tree) → AllByRecursion (HasSome (forget rows)) ks → at (Up k ∷ []) (map at_own ks) ≡ cond (list_any is_of ks) shown None
      at-each [] all = refl
      at-each (v ∷ ks) all = ap (λ b. cond b (Some (group_row g (documents_under_key v docs))) (at (Up k ∷ []) (map at_own ks))) (one-part (key_order k (value (canon v)))) ∙ by (is_of v) refl (at-each ks all.1)
        where
          by : (b : Bool) → is_of v ≡ b → at (Up k ∷ []) (map at_own ks) ≡ cond (list_any is_of ks) shown None → cond b (Some (group_row g (documents_under_key v docs))) (at (Up k ∷ []) (map at_own ks)) ≡ cond (b || list_any is_of ks) shown None
          by true is rest = sym (own-shown v (forget rows) all.0) ∙ ap (row_shown g) (under-with k v ((Equal-is (key_order k (value (canon v)))).0 is) rows)
          by false is rest = rest

      -- the row of the group of the rows that have it
      pub at-grouped : at (Up k ∷ []) (grouped_at g rows) ≡ row_shown g (forget (rows_with g k rows))
      at-grouped = ap (at (Up k ∷ [])) at-own ∙ at-each keys some ∙ by (list_any is_of keys) refl
        where
          by : (b : Bool) → list_any is_of keys ≡ b → cond b shown None ≡ shown
          by true is = refl
          by false is = ap (λ es. row_shown g (forget es)) (sym (none-with k rows (sym (any_key_of is_of (alike k) docs ∙ any-keyed k (forget rows)) ∙ is)))

    -- ---- positions

    each-place : (ks : List Tree) → AllByRecursion IsKeyPlace (keys_of (map at_own ks))
    each-place [] = tt
    each-place (k ∷ ks) = ((value (canon k), refl), each-place ks)

    pub grouped-places : AllByRecursion IsKeyPlace (keys_of (grouped_at g rows))
    grouped-places = rw at-own (each-place keys)

    each-exact : (ks : List Tree) → AllByRecursion IsExact (keys_of (map at_own ks))
    each-exact [] = tt
    each-exact (k ∷ ks) = ((record { of = Some k; is = refl }, tt), each-exact ks)

    each-above : (v : Tree) (ks : List Tree) → AllByRecursion (λ w. order v w ≡ Less) ks → AllByRecursion (λ q. pos_order (Up (value (canon v)) ∷ []) q ≡ Less) (keys_of (map at_own ks))
    each-above v [] all = tt
    each-above v (w ∷ ks) all = (ap (λ o. ordering_then o Equal) (order_of_canon v w ∙ all.0), each-above v ks all.1)

    each-ascends : (ks : List Tree) → IsStrictlySortedBy order ks → IsStrictlySortedBy pos_order (keys_of (map at_own ks))
    unfolding IsStrictlySortedBy
    each-ascends [] up = tt
    each-ascends (k ∷ ks) up = (each-above k ks up.0, each-ascends ks up.1)

    each-one : (ks : List Tree) → AllByRecursion (λ q. length q ≡ 1) (keys_of (map at_own ks))
    each-one [] = tt
    each-one (k ∷ ks) = (refl, each-one ks)

    pub group_ordered : IsPositioned rows → IsPositioned (grouped_at g rows)
    group_ordered are = rw at-own (record { ascending = each-ascends keys (keys_ascend docs); exact = each-exact keys })

    pub group_even : IsPositioned rows → HaveOneLength rows → HaveOneLength (grouped_at g rows)
    group_even are one = rw at-own (1, each-one keys)

  pub group_empty : grouped_at g [] ≡ []
  unfolding grouped_at groups_of
  group_empty = refl
