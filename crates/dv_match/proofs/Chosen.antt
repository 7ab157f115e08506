-- Looking a value up among values that ascend.
use Rattle.std.proofs.Common.{◌≡◌, ◌∙◌, ◌<◌, ◌+◌, ◌==◌, ap, sym, subst, refl, arith, ℕ, zero, suc, nat_lt, Bool, true, false, cond, ◌||◌, List, [], ◌∷◌, length, map, get_or, Option, Some, None, is_some, Result, Ok, Err, eqb-true, ltb-true, ltb-false, tests}
use Rattle.std.specs.Cmp.{IsStrictWeakOrder, IsTotalOrder, on_total}
use Rattle.std.specs.List.{list_any, dedup, dedup_from}
use Rattle.std.specs.List.Sorted.{IsPermutation, IsSortedBy, IsSearchInRange, IsBinarySearchResult, IsPartitionPoint}
use Rattle.std.specs.Ordering.{is_eq, is_lt, ordering_reverse}
use Rattle.std.specs.Result.{result_ok}
use Rattle.std.specs.declared.cmp.Ordering.{Ordering}
use Rattle.std.specs.declared.cmp.Ordering.TheVariants.{Less, Equal, Greater}
use Rattle.std.proofs.lemmas.Cmp.{alike_right}
use Rattle.std.proofs.lemmas.List.{get_or_read}
use Rattle.std.proofs.lemmas.List.Folds.{list_any_at}
use Rattle.std.proofs.lemmas.List.Kept.{IsStrictlySortedBy-dedup}
use Rattle.std.proofs.lemmas.List.MinMax.{ranks_by}
use Rattle.std.proofs.lemmas.List.Sorted.{searchable_from_sorted, list_any-IsPermutation}
use Rattle.std.proofs.lemmas.Map.Keys.{Less-from_sorted}
use Rattle.dv_value.specs.Tree.{Tree}
use Rattle.dv_value.specs.View.{tree}
use Rattle.dv_value.specs.declared.value.Value.{Value}
use Rattle.dv_value.specs.Inner.ListLaws.{any-map}
use Rattle.dv_order.specs.Order.{order}
use Rattle.dv_order.specs.Inner.TotalOrder.{order_total}
use Rattle.dv_order.specs.Inner.KeyLaws.{equal-from}
use Rattle.dv_match.specs.Inner.Choices.{value_order, Ascend, RespectsEqual, AreChoicesInOrder, IsPlaceOf}

abbrev pub stands_before : Value → Value → Bool
stands_before v w = is_lt (value_order v w)

abbrev pub is_same_value : Value → Value → Bool
is_same_value v w = is_eq (value_order v w)

pub ranked : IsStrictWeakOrder stands_before
ranked = ranks_by order_total tree

total : IsTotalOrder value_order
total = on_total tree order_total

or-twice : (a b : Bool) → a || b ≡ a || (a || b)
or-twice true b = refl
or-twice false b = refl

-- if only one of equal values is kept, one of the kept values passes a test exactly if one of all values does
module _ (test : Tree → Bool) (respects : RespectsEqual test) where
  abbrev passes : Value → Bool
  passes v = test (tree v)

  any-from : (k : Value) (xs : List Value) → list_any passes (dedup_from is_same_value k xs) ≡ passes k || list_any passes xs
  any-from k [] = refl
  any-from k (x ∷ xs) = at (is_same_value x k) refl (any-from k xs) (any-from x xs)
    where
      at : (b : Bool) → is_same_value x k ≡ b → list_any passes (dedup_from is_same_value k xs) ≡ passes k || list_any passes xs → list_any passes (dedup_from is_same_value x xs) ≡ passes x || list_any passes xs → list_any passes (cond b (dedup_from is_same_value k xs) (k ∷ dedup_from is_same_value x xs)) ≡ passes k || (passes x || list_any passes xs)
      at true same here later = here ∙ or-twice (passes k) (list_any passes xs) ∙ ap (λ b. passes k || (b || list_any passes xs)) (sym (respects (tree x) (tree k) (equal-from (value_order x k) same)))
      at false same here later = ap (λ b. passes k || b) later

  any-once : (xs : List Value) → list_any passes (dedup is_same_value xs) ≡ list_any passes xs
  any-once [] = refl
  any-once (x ∷ xs) = any-from x xs

-- the copies of a list, sorted, with only one of equal values
pub in-order : (vs : List Tree) (copied sorted values : List Value) → map tree copied ≡ vs → IsPermutation copied sorted → IsSortedBy stands_before sorted → values ≡ dedup is_same_value sorted → AreChoicesInOrder vs values
in-order vs copied sorted values seen moved up once = record {
  ascending = subst Ascend (sym once) (IsStrictlySortedBy-dedup total (λ x y. refl) sorted up);
  same = λ test respects.
      any-map test tree values ∙ ap (list_any (λ v. test (tree v))) once ∙ any-once test respects sorted
      ∙ sym (list_any-IsPermutation (λ v. test (tree v)) copied sorted moved) ∙ sym (any-map test tree copied) ∙ ap (list_any test) seen;
}

-- how the value compares with another, the other way round
turned : (v w : Tree) (o : Ordering) → order w v ≡ o → is_eq (order v w) ≡ is_eq (ordering_reverse o)
turned v w o e = ap is_eq (order_total.antisymm v w ∙ ap ordering_reverse e)

module _ (values : List Value) (v : Tree) (up : Ascend values) where
  rises : (i j : ℕ) (d : Value) → i < j → j < length values → order (tree (get_or values i d)) (tree (get_or values j d)) ≡ Less
  rises i j d less within = Less-from_sorted value_order values i j d up less within

  sorted-so : IsSortedBy stands_before values
  sorted-so k d low within = ap is_lt (order_total.antisymm (tree (get_or values (k + 1) d)) (tree (get_or values k d)) ∙ ap ordering_reverse (rises k (k + 1) d (omega arith) within))

  -- what a search finds
  found-there : (i k : ℕ) (d : Value) → i < length values → k < length values → order (tree (get_or values i d)) v ≡ Equal → is_eq (order v (tree (get_or values k d))) ≡ (k == i)
  found-there i k d there within e = at (k == i) refl (nat_lt k i) refl
    where
      at : (same : Bool) → (k == i) ≡ same → (less : Bool) → nat_lt k i ≡ less → is_eq (order v (tree (get_or values k d))) ≡ same
      at true is less h = let here : k ≡ i = eqb-true k i is in rw here (turned v (tree (get_or values i d)) Equal e)
      at false is true h = turned v (tree (get_or values k d)) Less (sym (alike_right order_total (tree (get_or values i d)) v (tree (get_or values k d)) e) ∙ rises k i d (ltb-true k i h) there)
      at false is false h =
          let apart : i < k = grind (arith, tests) in
          ap is_eq (sym (order_total.congr (tree (get_or values i d)) v (tree (get_or values k d)) e) ∙ rises i k d apart within)

  pub placed : (r : Result ℕ ℕ) → IsSearchInRange r (length values) → IsBinarySearchResult (λ member. order (tree member) v) values r → IsPlaceOf v values (result_ok r)
  placed (Ok i) there found = record { within = there; at = λ k d within. found-there i k d there within (found d) }
  placed (Err i) there found =
      let parted : IsPartitionPoint (λ member. order (tree member) v ≡ Less) (λ member. order (tree member) v ≡ Greater) values i = found (searchable_from_sorted order_total tree values v sorted-so) in
      record { within = tt; at = λ k d within. apart k d within (nat_lt k i) refl parted }
    where
      apart : (k : ℕ) (d : Value) → k < length values → (b : Bool) → nat_lt k i ≡ b → IsPartitionPoint (λ member. order (tree member) v ≡ Less) (λ member. order (tree member) v ≡ Greater) values i → is_eq (order v (tree (get_or values k d))) ≡ false
      apart k d l true e p = turned v (tree (get_or values k d)) Less (p.0 k d (omega arith) (ltb-true k i e))
      apart k d l false e p = turned v (tree (get_or values k d)) Greater (p.1 k d (ltb-false k i e) l)

  -- a value before the first, and one after the last
  pub before-first : (x : Value) → 0 < length values → x ≡ get_or values 0 x → order v (tree x) ≡ Less → IsPlaceOf v values None
  before-first x some first less = record { within = tt; at = λ k d within. below k d within }
    where
      here : (d : Value) → order v (tree (get_or values 0 d)) ≡ Less
      here d = ap (λ y. order v (tree y)) (sym (get_or_read values 0 x some first d)) ∙ less

      below : (k : ℕ) (d : Value) → k < length values → is_eq (order v (tree (get_or values k d))) ≡ false
      below zero d within = ap is_eq (here d)
      below (suc k) d within = ap is_eq (order_total.trans v (tree (get_or values 0 d)) (tree (get_or values (suc k) d)) (here d) (rises 0 (suc k) d (omega arith) within))

  pub behind-last : (last : ℕ) (x : Value) → last + 1 ≡ length values → x ≡ get_or values last x → order (tree x) v ≡ Less → IsPlaceOf v values None
  behind-last last x ends is less = record { within = tt; at = λ k d within. above k d within (nat_lt k last) refl }
    where
      here : (d : Value) → order (tree (get_or values last d)) v ≡ Less
      here d = ap (λ y. order (tree y) v) (sym (get_or_read values last x (omega arith) is d)) ∙ less

      above : (k : ℕ) (d : Value) → k < length values → (b : Bool) → nat_lt k last ≡ b → is_eq (order v (tree (get_or values k d))) ≡ false
      above k d within true e = turned v (tree (get_or values k d)) Less (order_total.trans (tree (get_or values k d)) (tree (get_or values last d)) v (rises k last d (ltb-true k last e) (omega arith)) (here d))
      above k d within false e =
          let at-last : k ≡ last = omega (arith, ltb-false k last e) in
          rw at-last (turned v (tree (get_or values last d)) Less (here d))

pub less-from : (o : Ordering) (b : Bool) → b ≡ is_lt o → b ≡ true → o ≡ Less
less-from Less b is e = refl
less-from Equal b is e = cc
less-from Greater b is e = cc

none-of-them : (test : Value → Bool) (xs : List Value) → ((k : ℕ) (d : Value) → k < length xs → test (get_or xs k d) ≡ false) → list_any test xs ≡ false
none-of-them test [] h = refl
none-of-them test (x ∷ xs) h = ap (λ b. b || list_any test xs) (h 0 x (omega arith)) ∙ none-of-them test xs (λ k d l. h (suc k) d (omega arith))

-- a value is among those of a list exactly if it has a place among their copies
module _ (v : Tree) where
  abbrev is_it : Tree → Bool
  is_it w = is_eq (order v w)

  abbrev is_this : Value → Bool
  is_this w = is_it (tree w)

  some-place : (xs : List Value) (k : ℕ) → IsPlaceOf v xs (Some k) → list_any is_this xs ≡ true
  some-place [] k p = absurd (omega (arith, p.within))
  some-place (x ∷ xs) k p = list_any_at is_this (x ∷ xs) k x p.within (p.at k x p.within ∙ grind (arith, tests))

  is-there : (xs : List Value) (place : Option ℕ) → IsPlaceOf v xs place → is_some place ≡ list_any is_this xs
  is-there xs (Some k) p = sym (some-place xs k p)
  is-there xs None p = sym (none-of-them is_this xs p.at)

  pub looked-up : (vs : List Tree) (values : List Value) (place : Option ℕ) → AreChoicesInOrder vs values → IsPlaceOf v values place → is_some place ≡ list_any is_it vs
  looked-up vs values place known p = is-there values place p ∙ sym (any-map is_it tree values) ∙ known.same is_it (λ w x e. ap is_eq (alike_right order_total w x v e))
