-- The keys of groups: they ascend, and are those of the documents.
use Rattle.std.proofs.Common.{◌≡◌, ◌∙◌, ap, refl, Bool, true, false, ◌||◌, List, [], ◌∷◌, ◌++◌}
use Rattle.std.specs.List.{list_any, AllByRecursion}
use Rattle.std.specs.List.Sorted.{IsStrictlySortedBy}
use Rattle.std.specs.Cmp.{eq_by_cmp_equiv}
use Rattle.std.specs.Ordering.{is_eq, ordering_reverse, match_ordering}
use Rattle.std.specs.declared.cmp.Ordering.{Ordering}
use Rattle.std.specs.declared.cmp.Ordering.TheVariants.{Less, Equal, Greater}
use Rattle.dv_value.specs.Tree.{Tree}
use Rattle.dv_order.specs.Order.{order}
use Rattle.dv_order.specs.Inner.TotalOrder.{order_total}
use Rattle.dv_gather.specs.Groups.{Keyed, with_key, keys_from, group_keys}

pub same-as : (v w x : Tree) → order v w ≡ Equal → order v x ≡ order w x
same-as v w x e = order_total.congr v w x e

pub back : (v w : Tree) (o : Ordering) → order v w ≡ o → order w v ≡ ordering_reverse o
back v w o e = order_total.antisymm w v ∙ ap ordering_reverse e

pub itself : (v : Tree) → is_eq (order v v) ≡ true
itself v = (eq_by_cmp_equiv order_total).refl v

-- a key equals both of two equal keys, or neither
equal-alike : (x v w : Tree) → order v w ≡ Equal → is_eq (order x v) ≡ is_eq (order x w)
equal-alike x v w e = (eq_by_cmp_equiv order_total).symm x v ∙ ap is_eq (same-as v w x e) ∙ (eq_by_cmp_equiv order_total).symm w x

-- ---- keys in their order, with one more

abbrev pub Above : Tree → List Tree → Type 0
Above k = AllByRecursion (λ l. order k l ≡ Less)

pub above-earlier : (v l : Tree) (ls : List Tree) → order v l ≡ Less → Above l ls → Above v ls
above-earlier v l [] e h = tt
above-earlier v l (m ∷ ls) e h = (order_total.trans v l m e h.0, above-earlier v l ls e h.1)

pub above-same : (v l : Tree) (ls : List Tree) → order v l ≡ Equal → Above l ls → Above v ls
above-same v l [] e h = tt
above-same v l (m ∷ ls) e h = (same-as v l m e ∙ h.0, above-same v l ls e h.1)

above-with : (k v : Tree) (ls : List Tree) → order k v ≡ Less → Above k ls → Above k (with_key v ls)
above-with k v [] e h = (e, tt)
above-with k v (l ∷ ls) e h = go (order v l) (above-with k v ls e h.1)
  where
    go : (o : Ordering) → Above k (with_key v ls) → Above k (match_ordering o (v ∷ l ∷ ls) (l ∷ ls) (l ∷ with_key v ls))
    go Less rest = (e, h)
    go Equal rest = h
    go Greater rest = (h.0, rest)

pub sorted-with : (v : Tree) (ls : List Tree) → IsStrictlySortedBy order ls → IsStrictlySortedBy order (with_key v ls)
unfolding IsStrictlySortedBy
sorted-with v [] h = (tt, tt)
sorted-with v (l ∷ ls) h = go (order v l) refl (sorted-with v ls h.1)
  where
    go : (o : Ordering) → order v l ≡ o → IsStrictlySortedBy order (with_key v ls) → IsStrictlySortedBy order (match_ordering o (v ∷ l ∷ ls) (l ∷ ls) (l ∷ with_key v ls))
    go Less e rest = ((e, above-earlier v l ls e h.0), h)
    go Equal e rest = h
    go Greater e rest = (above-with l v ls (back v l Greater e) h.0, rest)

or-swap : (a b c : Bool) → a || (b || c) ≡ b || (a || c)
or-swap true true c = refl
or-swap true false c = refl
or-swap false b c = refl

or-none : (a : Bool) → a ≡ a || false
or-none true = refl
or-none false = refl

or-first : (a b c : Bool) → (a || b) || c ≡ b || (a || c)
or-first true true c = refl
or-first true false c = refl
or-first false b c = refl

or-right : (a b : Bool) → b ≡ true → a || b ≡ true
or-right true b e = refl
or-right false b e = e

or-twice : (a b c : Bool) → a ≡ b → b || c ≡ a || (b || c)
or-twice true true c e = refl
or-twice true false c e = cc
or-twice false b c e = refl

abbrev pub any-equal : Tree → List Tree → Bool
any-equal x = list_any (λ k. is_eq (order x k))

-- a test that has the same result for equal keys
module _ (test : Tree → Bool) (alike : (v w : Tree) → order v w ≡ Equal → test v ≡ test w) where
  any-with_key : (v : Tree) (ls : List Tree) → list_any test (with_key v ls) ≡ test v || list_any test ls
  any-with_key v [] = refl
  any-with_key v (l ∷ ls) = go (order v l) refl (any-with_key v ls)
    where
      go : (o : Ordering) → order v l ≡ o → list_any test (with_key v ls) ≡ test v || list_any test ls → list_any test (match_ordering o (v ∷ l ∷ ls) (l ∷ ls) (l ∷ with_key v ls)) ≡ test v || list_any test (l ∷ ls)
      go Less e rest = refl
      go Equal e rest = or-twice (test v) (test l) (list_any test ls) (alike v l e)
      go Greater e rest = ap (λ b. test l || b) rest ∙ or-swap (test l) (test v) (list_any test ls)

  any-from : (ks : List Tree) (ds : List Keyed) → list_any test (keys_from ks ds) ≡ list_any test ks || list_any (λ d. test d.0) ds
  any-from ks [] = or-none (list_any test ks)
  any-from ks (d ∷ ds) =
      any-from (with_key d.0 ks) ds
      ∙ ap (λ b. b || list_any (λ d. test d.0) ds) (any-with_key d.0 ks)
      ∙ or-first (test d.0) (list_any test ks) (list_any (λ d. test d.0) ds)

  -- it holds of one of the group keys exactly if it holds of the key of one of the documents
  pub any_key_of : (ds : List Keyed) → list_any test (group_keys ds) ≡ list_any (λ d. test d.0) ds
  any_key_of ds = any-from [] ds

pub any-with : (x v : Tree) (ls : List Tree) → any-equal x (with_key v ls) ≡ is_eq (order x v) || any-equal x ls
any-with x v ls = any-with_key (λ k. is_eq (order x k)) (λ v l e. equal-alike x v l e) v ls

keys-keep : (x : Tree) (ks : List Tree) (ds : List Keyed) → any-equal x ks ≡ true → any-equal x (keys_from ks ds) ≡ true
keys-keep x ks [] h = h
keys-keep x ks (d ∷ ds) h = keys-keep x (with_key d.0 ks) ds (any-with x d.0 ks ∙ or-right (is_eq (order x d.0)) (any-equal x ks) h)

keys-have : (ks : List Tree) (before after : List Keyed) (d : Keyed) → any-equal d.0 (keys_from ks (before ++ d ∷ after)) ≡ true
keys-have ks [] after d = keys-keep d.0 (with_key d.0 ks) after (any-with d.0 d.0 ks ∙ ap (λ b. b || any-equal d.0 ks) (itself d.0))
keys-have ks (e ∷ before) after d = keys-have (with_key e.0 ks) before after d

-- each document's key is one of the keys
pub key_there : (before after : List Keyed) (d : Keyed) → any-equal d.0 (group_keys (before ++ d ∷ after)) ≡ true
key_there before after d = keys-have [] before after d

keys-sorted : (ks : List Tree) (ds : List Keyed) → IsStrictlySortedBy order ks → IsStrictlySortedBy order (keys_from ks ds)
keys-sorted ks [] h = h
keys-sorted ks (d ∷ ds) h = keys-sorted (with_key d.0 ks) ds (sorted-with d.0 ks h)

pub keys_ascend : (ds : List Keyed) → IsStrictlySortedBy order (group_keys ds)
unfolding IsStrictlySortedBy
keys_ascend ds = keys-sorted [] ds tt
