-- References to keys that are sorted, with equal ones only once.
use Rattle.std.proofs.Common.{Bor, ◌≡◌, ◌∙◌, ◌+◌, ◌<◌, ℕ, length, take, get_or, List, [], ◌∷◌, map, refl, ap, sym, subst, Bool, true, false, cond, ◌||◌}
use Rattle.std.specs.List.{AllByRecursion, dedup, dedup_from, list_any}
use Rattle.std.specs.List.Retain.{DiffersFromLast, IsFiltered}
use Rattle.std.specs.List.Sorted.{IsPermutation, IsSorted, IsStrictlySortedBy}
use Rattle.std.specs.Ordering.{eq_by_cmp, is_eq}
use Rattle.std.specs.declared.cmp.Ordering.{Ordering}
use Rattle.std.specs.declared.cmp.Ordering.TheVariants.{Less}
use Rattle.std.proofs.lemmas.Cmp.{alike_right, on_total}
use Rattle.std.proofs.lemmas.List.Filters.{dedup_is}
use Rattle.std.proofs.lemmas.List.Kept.{IsStrictlySortedBy-dedup}
use Rattle.std.proofs.lemmas.List.Sorted.{list_any-IsPermutation}
use Rattle.dv_value.specs.Tree.{Tree}
use Rattle.dv_value.specs.View.{tree}
use Rattle.dv_value.specs.declared.value.Value.{Value}
use Rattle.dv_value.specs.Inner.ListLaws.{any-map}
use Rattle.dv_order.specs.Key.{KeyTree, key_order, value}
use Rattle.dv_order.specs.Order.{canon}
use Rattle.dv_order.specs.Inner.KeyLaws.{key_order_total, equal-from}
use Rattle.dv_path.specs.LeafKeys.{is_key_of, is_some_key}
use Rattle.dv_keyed.specs.Inner.Keys.{has_key}
use Rattle.dv_keyed.specs.Inner.ListLaws.{any-one-more}

abbrev pub now : Bor KeyTree → KeyTree
now x = x.now

abbrev pub lent-order : Bor KeyTree → Bor KeyTree → Ordering
lent-order x y = key_order x.now y.now

abbrev pub lent-equal : Bor KeyTree → Bor KeyTree → Bool
lent-equal x y = eq_by_cmp key_order x.now y.now

all-lent : (P : KeyTree → Type 0) (xs : List (Bor KeyTree)) → AllByRecursion (λ x. P x.now) xs → AllByRecursion P (map now xs)
all-lent P [] h = tt
all-lent P (x ∷ xs) h = (h.0, all-lent P xs h.1)

ascends-lent : (xs : List (Bor KeyTree)) → IsStrictlySortedBy lent-order xs → IsStrictlySortedBy key_order (map now xs)
unfolding IsStrictlySortedBy
ascends-lent [] h = tt
ascends-lent (x ∷ xs) h = (all-lent (λ y. key_order x.now y ≡ Less) xs h.0, ascends-lent xs h.1)

or-twice : (a b : Bool) → a || b ≡ a || (a || b)
or-twice true b = refl
or-twice false b = refl

-- of equal keys, the one that is kept passes a test if any does
any-from : (p : Bor KeyTree → Bool) → ((x y : Bor KeyTree) → lent-equal x y ≡ true → p x ≡ p y) → (k : Bor KeyTree) (xs : List (Bor KeyTree)) → list_any p (dedup_from lent-equal k xs) ≡ p k || list_any p xs
any-from p alike k [] = refl
any-from p alike k (x ∷ xs) = at (lent-equal x k) refl (any-from p alike k xs) (any-from p alike x xs)
  where
    at : (b : Bool) → lent-equal x k ≡ b → list_any p (dedup_from lent-equal k xs) ≡ p k || list_any p xs → list_any p (dedup_from lent-equal x xs) ≡ p x || list_any p xs → list_any p (cond b (dedup_from lent-equal k xs) (k ∷ dedup_from lent-equal x xs)) ≡ p k || (p x || list_any p xs)
    at true same here later = here ∙ or-twice (p k) (list_any p xs) ∙ ap (λ b. p k || (b || list_any p xs)) (sym (alike x k same))
    at false same here later = ap (λ b. p k || b) later

any-once : (p : Bor KeyTree → Bool) → ((x y : Bor KeyTree) → lent-equal x y ≡ true → p x ≡ p y) → (xs : List (Bor KeyTree)) → list_any p (dedup lent-equal xs) ≡ list_any p xs
any-once p alike [] = refl
any-once p alike (x ∷ xs) = any-from p alike x xs

-- a key is among the keys of values exactly if it is the key of one of them
pub among-values : (k : KeyTree) (ids : List (Bor KeyTree)) (keys : List KeyTree) (vs : List Value) (ts : List Tree) → map now ids ≡ keys → keys ≡ map (λ v. value (canon (tree v))) vs → map tree vs ≡ ts → has_key k (map now ids) ≡ is_some_key k ts
among-values k ids keys vs ts e f g =
    ap (has_key k) (e ∙ f) ∙ any-map (λ l. is_eq (key_order k l)) (λ v. value (canon (tree v))) vs ∙ sym (any-map (is_key_of k) tree vs) ∙ ap (is_some_key k) g

module _ (xs sorted ys : List (Bor KeyTree)) (filtered : IsFiltered (DiffersFromLast lent-equal) [] sorted ys) where
  pub once-ascends : IsSorted lent-order sorted → IsStrictlySortedBy key_order (map now ys)
  once-ascends h =
      ascends-lent ys (subst (IsStrictlySortedBy lent-order) (sym (dedup_is lent-equal sorted ys filtered)) (IsStrictlySortedBy-dedup (on_total now key_order_total) (λ x y. refl) sorted h))

  pub once-same : IsPermutation xs sorted → (k : KeyTree) → has_key k (map now ys) ≡ has_key k (map now xs)
  once-same moved k =
      let p = λ (x : Bor KeyTree). is_eq (key_order k x.now) in
      any-map (λ l. is_eq (key_order k l)) now ys
      ∙ ap (list_any p) (dedup_is lent-equal sorted ys filtered)
      ∙ any-once p (λ x y same. ap is_eq (alike_right key_order_total x.now y.now k (equal-from (key_order x.now y.now) same))) sorted
      ∙ sym (list_any-IsPermutation p xs sorted moved)
      ∙ sym (any-map (λ l. is_eq (key_order k l)) now xs)

-- one of the first keys and the next one passes a test exactly if one of the first does, or the next one does
pub any-among-more : (p : KeyTree → Bool) (ids : List (Bor KeyTree)) (i : ℕ) (x : Bor KeyTree) → i < length ids → x ≡ get_or ids i x → list_any p (map now (take (i + 1) ids)) ≡ list_any p (map now (take i ids)) || p x.now
any-among-more p ids i x within is =
    any-map p now (take (i + 1) ids) ∙ any-one-more (λ (y : Bor KeyTree). p y.now) ids i x within is ∙ ap (λ b. b || p x.now) (sym (any-map p now (take i ids)))
