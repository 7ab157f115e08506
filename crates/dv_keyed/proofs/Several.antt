-- Pairs of several keys with one `_id`, added or removed one after the other.
use Rattle.std.proofs.Common.{Result, Ok, Err, OnErr, ◌≡◌, ℕ, zero, suc, List, [], ◌∷◌, map, take, refl, ap, sym, ◌∙◌, Bool, true, false, not, ◌||◌, ◌&&◌, filter, Bor}
use Rattle.std.proofs.Math.Bool.{and-false, and_comm}
use Rattle.std.proofs.lemmas.Map.Views.{any-filter_same}
use Rattle.std.specs.List.{list_any}
use Rattle.std.specs.Ordering.{is_eq}
use Rattle.dv_order.specs.Key.{KeyTree, key_order}
use Rattle.dv_keyed.specs.Inner.Keys.{has_key}
use Rattle.dv_keyed.specs.Inner.Pairs.{Pair, has_pair}
use Rattle.dv_keyed.specs.Inner.PairLaws.{same-key, same-id}
use Rattle.dv_value.specs.Inner.ListLaws.{any-map}

pub on-err : {T E P : Type 0} (r : Result T E) → P → OnErr r P
on-err (Ok x) p = tt
on-err (Err e) p = p

-- ---- one key more
pub added-more : (o p x s : Bool) → (o || (p && s)) || (x && s) ≡ o || ((p || x) && s)
added-more true p x s = refl
added-more false true x true = refl
added-more false true true false = refl
added-more false true false false = refl
added-more false false x s = refl

pub taken-more : (o p x s : Bool) → (o && not (p && s)) && not (x && s) ≡ o && not ((p || x) && s)
taken-more true true x true = refl
taken-more true true true false = refl
taken-more true true false false = refl
taken-more true false x s = refl
taken-more false p x s = refl

pub added-none : (o s : Bool) → o ≡ o || (false && s)
added-none true s = refl
added-none false s = refl

pub taken-none : (o s : Bool) → o ≡ o && not (false && s)
taken-none true s = refl
taken-none false s = refl

-- ---- some of the keys are added, then all of them are removed
pub outside : (o p w s : Bool) → (p ≡ true → w ≡ true) → (o || (p && s)) && not (w && s) ≡ o && not (w && s)
outside true p w s h = refl
outside false true w true h = ap (λ c. not (c && true)) (h refl)
outside false true w false h = refl
outside false false w s h = refl

pub any-front : {X : Type 0} (p : X → Bool) (xs : List X) (i : ℕ) → list_any p (take i xs) ≡ true → list_any p xs ≡ true
any-front p [] zero h = h
any-front p [] (suc i) h = h
any-front p (x ∷ xs) zero h = absurd cc
any-front p (x ∷ xs) (suc i) h = either-way (p x) (list_any p (take i xs)) (list_any p xs) (any-front p xs i) h
  where
    either-way : (a b c : Bool) → (b ≡ true → c ≡ true) → a || b ≡ true → a || c ≡ true
    either-way true b c f e = refl
    either-way false b c f e = f e

pub keys-lent : (k : KeyTree) (ls : List (Bor KeyTree)) → list_any (λ l. is_eq (key_order k l.now)) ls ≡ has_key k (map (λ l. l.now) ls)
keys-lent k ls = sym (any-map (λ l. is_eq (key_order k l)) (λ (l : Bor KeyTree). l.now) ls)

-- ---- the keys whose pairs aren't there

pub any-filter : (p q : KeyTree → Bool) (b : Bool) → ((l : KeyTree) → p l ≡ true → q l ≡ b) → (ls : List KeyTree) → list_any p (filter q ls) ≡ list_any p ls && b
any-filter p q b agree ls = any-filter_same p q b agree ls ∙ and_comm b (list_any p ls)

fresh-keys : (ks : List KeyTree) (ps : List Pair) (id k : KeyTree) → has_key k (filter (λ l. not (has_pair l id ps)) ks) ≡ has_key k ks && not (has_pair k id ps)
fresh-keys ks ps id k =
    any-filter (λ l. is_eq (key_order k l)) (λ l. not (has_pair l id ps)) (not (has_pair k id ps)) (λ l e. ap not (sym (same-key k l id ps e))) ks

added-anyway : (h hi p s : Bool) → (s ≡ true → hi ≡ h) → hi || ((p && not h) && s) ≡ hi || (p && s)
added-anyway h true p s same = refl
added-anyway h false true true same = ap (λ c. (true && not c) && true) (sym (same refl))
added-anyway h false false true same = refl
added-anyway h false p false same = and-false (p && not h) ∙ sym (and-false p)

not-both : (p h : Bool) → p && not h ≡ true → h ≡ false
not-both p false e = refl
not-both true true e = absurd cc
not-both false true e = absurd cc

-- what wasn't there is removed again
pub taken-back : (h p s : Bool) → (s ≡ true → p ≡ true → h ≡ false) → h && not (p && s) ≡ h
taken-back false p s absent = refl
taken-back true true true absent = sym (absent refl refl)
taken-back true true false absent = refl
taken-back true false s absent = refl

module _ (ks fresh : List KeyTree) (ps : List Pair) (id : KeyTree) (is : fresh ≡ filter (λ l. not (has_pair l id ps)) ks) (k i : KeyTree) where
  -- adding the keys whose pairs aren't there is the same as adding all keys
  pub added-fresh : has_pair k i ps || (has_key k fresh && is_eq (key_order i id)) ≡ has_pair k i ps || (has_key k ks && is_eq (key_order i id))
  added-fresh =
      ap (λ b. has_pair k i ps || (b && is_eq (key_order i id))) (ap (has_key k) is ∙ fresh-keys ks ps id k)
      ∙ added-anyway (has_pair k id ps) (has_pair k i ps) (has_key k ks) (is_eq (key_order i id)) (same-id k i id ps)

module _ (ks fresh : List KeyTree) (ps : List Pair) (id : KeyTree) (is : fresh ≡ filter (λ l. not (has_pair l id ps)) ks) where
  -- none of them is there
  pub fresh-absent : (k : KeyTree) → has_key k fresh ≡ true → has_pair k id ps ≡ false
  fresh-absent k e = not-both (has_key k ks) (has_pair k id ps) (sym (ap (has_key k) is ∙ fresh-keys ks ps id k) ∙ e)
