-- Documents that share a value, by the keys of the values of one side.
use Rattle.std.proofs.Common.{◌≡◌, ◌∙◌, ap, sym, refl, Bool, true, false, ◌||◌, List, [], ◌∷◌, filter, ℕ, if◌then◌else◌}
use Rattle.std.specs.List.{list_any}
use Rattle.std.specs.Cmp.{eq_by_cmp_equiv}
use Rattle.std.specs.Ordering.{is_eq}
use Rattle.dv_value.specs.Tree.{Tree, Field}
use Rattle.dv_value.specs.Inner.ListLaws.{same-truth}
use Rattle.dv_order.specs.Order.{canon, order}
use Rattle.dv_order.specs.Key.{KeyTree, value, key_order}
use Rattle.dv_order.specs.Inner.KeyLaws.{key_order_total}
use Rattle.dv_path.specs.LeafKeys.{is_key_of, is_some_key, leaf_values}
use Rattle.dv_gather.specs.Joining.{is_equal_to_one, is_joined, joined_by, joined_with}
use Rattle.dv_gather.specs.Inner.KeySets.{AreKeysOf, any_key}
use Rattle.dv_gather.specs.Inner.KeyLaws.{alike, any-same}

-- some item that passes
record Some-of {X : Type 0} (p : X → Bool) (xs : List X) : Type 0 where
  one : X
  passes : p one ≡ true
  among : (q : X → Bool) → q one ≡ true → list_any q xs ≡ true

or-right : (a b : Bool) → b ≡ true → a || b ≡ true
or-right true b e = refl
or-right false b e = e

or-left : (a b : Bool) → a ≡ true → a || b ≡ true
or-left true b e = refl
or-left false b e = cc

some-of : {X : Type 0} (p : X → Bool) (xs : List X) → list_any p xs ≡ true → Some-of p xs
some-of p [] e = absurd (let same : false ≡ true = e in cc)
some-of {X = X} p (x ∷ xs) e = go (p x) refl (some-of p xs)
  where
    go : (b : Bool) → p x ≡ b → (list_any p xs ≡ true → Some-of p xs) → Some-of p (x ∷ xs)
    go true is rest = record { one = x; passes = is; among = λ q h. or-left (q x) (list_any q xs) h }
    go false is rest =
        let there : Some-of p xs = rest (ap (λ b. b || list_any p xs) (sym is) ∙ e) in
        record { one = there.one; passes = there.passes; among = λ q h. or-right (q x) (list_any q xs) (there.among q h) }

key-itself : (k : KeyTree) → is_eq (key_order k k) ≡ true
key-itself k = (eq_by_cmp_equiv key_order_total).refl k

module _ (stands : (v w : Tree) → key_order (value (canon v)) (value (canon w)) ≡ order v w) where
  -- one of the keys of some values is the key of another value exactly if one of the values equals one of the others
  pub any-key_is : (keys : List KeyTree) (vs ws : List Tree) → AreKeysOf keys vs → any_key keys ws ≡ list_any (is_equal_to_one ws) vs
  any-key_is keys vs ws is = same-truth (any_key keys ws) (list_any (is_equal_to_one ws) vs) there back
    where
      among-is : (v : Tree) → is_some_key (value (canon v)) ws ≡ is_equal_to_one ws v
      among-is v = any-same (is_key_of (value (canon v))) (λ w. is_eq (order v w)) (λ w. ap is_eq (stands v w)) ws

      there : any_key keys ws ≡ true → list_any (is_equal_to_one ws) vs ≡ true
      there e =
          let k : Some-of (λ k. is_some_key k ws) keys = some-of (λ k. is_some_key k ws) keys e in
          let v : Some-of (is_key_of k.one) vs = some-of (is_key_of k.one) vs (sym (is k.one) ∙ k.among (λ l. is_eq (key_order k.one l)) (key-itself k.one)) in
          v.among (is_equal_to_one ws) (sym (among-is v.one) ∙ sym (alike k.one (value (canon v.one)) ws v.passes) ∙ k.passes)

      back : list_any (is_equal_to_one ws) vs ≡ true → any_key keys ws ≡ true
      back e =
          let v : Some-of (is_equal_to_one ws) vs = some-of (is_equal_to_one ws) vs e in
          let key = value (canon v.one) in
          let k : Some-of (λ l. is_eq (key_order key l)) keys = some-of (λ l. is_eq (key_order key l)) keys (is key ∙ v.among (is_key_of key) (key-itself key)) in
          k.among (λ k. is_some_key k ws) (sym (alike key k.one ws k.passes) ∙ among-is v.one ∙ v.passes)

  filter-same : {X : Type 0} (p q : X → Bool) → ((x : X) → p x ≡ q x) → (xs : List X) → filter p xs ≡ filter q xs
  filter-same p q h [] = refl
  filter-same p q h (x ∷ xs) = ap (λ b. if b then x ∷ filter p xs else filter p xs) (h x) ∙ ap (λ l. if q x then x ∷ l else l) (filter-same p q h xs)

  pub matches-by_keys : (keys : List KeyTree) (local foreign : List (List ℕ)) (d : List Field) (ds : List (List Field)) → AreKeysOf keys (joined_by local d) → filter (λ f. any_key keys (leaf_values foreign f)) ds ≡ joined_with local foreign ds d
  matches-by_keys keys local foreign d ds is = filter-same (λ f. any_key keys (leaf_values foreign f)) (is_joined local foreign d) (λ f. any-key_is keys (joined_by local d) (leaf_values foreign f) is) ds
