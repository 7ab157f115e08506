-- The earliest of some keys is known by the set of them.
use Rattle.std.proofs.Common.{◌≡◌, Bool, true, false, cond, List, [], ◌∷◌, ◌++◌, map, fold, Option, Some, None, Result, Ok, refl, ap, sym, ◌∙◌, ◌↔◌, inl, inr}
use Rattle.std.specs.Cmp.{IsStrictWeakOrder}
use Rattle.std.specs.List.{list_any, flat_map, best_of, AllByRecursion, FoldsTo}
use Rattle.std.specs.Ordering.{is_lt, is_ne, ordering_reverse}
use Rattle.std.specs.declared.cmp.Ordering.{Ordering}
use Rattle.std.specs.declared.cmp.Ordering.TheVariants.{Less, Equal, Greater}
use Rattle.std.proofs.lemmas.Bool.{or_cases, or_left, or_right, or_from, or_parts}
use Rattle.std.proofs.lemmas.List.MinMax.{ranks_by, IsStrictWeakOrder-flip}
use Rattle.dv_value.specs.Tree.{Tree, array, null, list_of_elements}
use Rattle.dv_value.specs.Inner.ListLaws.{any-flat_map}
use Rattle.dv_order.specs.Order.{canon, order}
use Rattle.dv_order.specs.Key.{KeyTree, no_element, value, key_order, key_at}
use Rattle.dv_order.specs.Inner.KeyLaws.{key_order_total}
use Rattle.dv_path.specs.declared.direction.Direction.{Direction}
use Rattle.dv_path.specs.declared.direction.Direction.TheVariants.{Ascending, Descending}
use Rattle.dv_candidates.specs.Candidates.{Candidate}
use Rattle.dv_candidates.specs.Inner.Fold.{Takes, FoldsOver, PassesOne}
use Rattle.dv_path.specs.SortKey.{array_keys, sort_keys_of, stands_first, earliest, earlier_with}

-- what the order of keys says of each other, as its laws have it
pub record Laws : Type 0 where
  pub same : (v w : Tree) → (order v w ≡ Equal) ↔ (canon v ≡ canon w)
  pub stand : (v w : Tree) → key_order (value (canon v)) (value (canon w)) ≡ order v w
  pub apart : (v : Tree) → is_ne (key_order no_element (value v)) ≡ true

-- the key of a value, or the one that no value has
pub record IsKey (k : KeyTree) : Type 0 where
  pub of : Option Tree
  pub is : k ≡ key_at of

abbrev AreKeys : List KeyTree → Type 0
AreKeys ks = AllByRecursion IsKey ks

key_of_tree : (v : Tree) → IsKey (key_at (Some v))
key_of_tree v = record { of = Some v; is = refl }

keys-map : (vs : List Tree) → AreKeys (map (λ w. key_at (Some w)) vs)
keys-map [] = tt
keys-map (v ∷ vs) = (key_of_tree v, keys-map vs)

keys-array : (vs : List Tree) → AreKeys (array_keys vs)
keys-array [] = (record { of = None; is = refl }, tt)
keys-array (v ∷ vs) = keys-map (v ∷ vs)

keys-candidate : (c : Candidate) → AreKeys (sort_keys_of c)
keys-candidate None = (key_of_tree null, tt)
keys-candidate (Some (array vs)) = keys-array (list_of_elements vs)
keys-candidate (Some v) = (key_of_tree v, tt)

keys-append : (ks ls : List KeyTree) → AreKeys ks → AreKeys ls → AreKeys (ks ++ ls)
keys-append [] ls h a = a
keys-append (k ∷ ks) ls h a = (h.0, keys-append ks ls h.1 a)

keys-all : (cs : List Candidate) → AreKeys (flat_map sort_keys_of cs)
keys-all [] = tt
keys-all (c ∷ cs) = keys-append (sort_keys_of c) (flat_map sort_keys_of cs) (keys-candidate c) (keys-all cs)

-- ---- the best of a list
module _ (beats : KeyTree → KeyTree → Bool) where
  best-key : (k : KeyTree) (ks : List KeyTree) → IsKey k → AreKeys ks → IsKey (best_of beats k ks)
  best-key k [] h a = h
  best-key k (l ∷ ks) h a = best-key (cond (beats l k) l k) ks (either_key (beats l k)) a.1
    where
      either_key : (b : Bool) → IsKey (cond b l k)
      either_key true = a.0
      either_key false = h

  best-in : (q : KeyTree → Bool) (k : KeyTree) (ks : List KeyTree) → q (best_of beats k ks) ≡ true → list_any q (k ∷ ks) ≡ true
  best-in q k [] h = or_left (q k) false h
  best-in q k (l ∷ ks) h = chosen (beats l k) (best-in q (cond (beats l k) l k) ks h)
    where
      chosen : (b : Bool) → list_any q (cond b l k ∷ ks) ≡ true → list_any q (k ∷ l ∷ ks) ≡ true
      chosen true e = or_right (q k) (list_any q (l ∷ ks)) e
      chosen false e = elim (or_cases (q k) (list_any q ks) e) [ inl here ↦ or_left (q k) _ here | inr later ↦ or_right (q k) _ (or_right (q l) _ later) ]

  best-first : IsStrictWeakOrder beats → (k : KeyTree) (ks : List KeyTree) → list_any (λ x. beats x (best_of beats k ks)) (k ∷ ks) ≡ false
  best-first o k [] = or_from (beats k k) false (irreflexive (beats k k) refl) refl
    where
      irreflexive : (b : Bool) → beats k k ≡ b → beats k k ≡ false
      irreflexive true e = o.one_way k k e
      irreflexive false e = e
  best-first o k (l ∷ ks) = chosen (beats l k) refl (best-first o l ks) (best-first o k ks)
    where
      chosen : (b : Bool) → beats l k ≡ b → list_any (λ x. beats x (best_of beats l ks)) (l ∷ ks) ≡ false → list_any (λ x. beats x (best_of beats k ks)) (k ∷ ks) ≡ false → list_any (λ x. beats x (best_of beats (cond (beats l k) l k) ks)) (k ∷ l ∷ ks) ≡ false
      chosen true e with_l with_k =
          let pick : cond (beats l k) l k ≡ l = ap (λ b. cond b l k) e in
          let rest = or_parts (beats l (best_of beats l ks)) (list_any (λ x. beats x (best_of beats l ks)) ks) with_l in
          let kept : beats k (best_of beats l ks) ≡ false = o.chain k l (best_of beats l ks) (o.one_way l k e) rest.0 in
          ap (λ b. list_any (λ x. beats x (best_of beats b ks)) (k ∷ l ∷ ks)) pick ∙ or_from (beats k (best_of beats l ks)) _ kept with_l
      chosen false e with_l with_k =
          let pick : cond (beats l k) l k ≡ k = ap (λ b. cond b l k) e in
          let rest = or_parts (beats k (best_of beats k ks)) (list_any (λ x. beats x (best_of beats k ks)) ks) with_k in
          let passed : beats l (best_of beats k ks) ≡ false = o.chain l k (best_of beats k ks) e rest.0 in
          ap (λ b. list_any (λ x. beats x (best_of beats b ks)) (k ∷ l ∷ ks)) pick ∙ or_from (beats k (best_of beats k ks)) _ rest.0 (or_from (beats l (best_of beats k ks)) _ passed rest.1)

not_true : (b : Bool) → (b ≡ true → ⊥) → b ≡ false
not_true true h = absurd (h refl)
not_true false h = refl

ranked : (direction : Direction) → IsStrictWeakOrder (stands_first direction)
ranked Ascending = ranks_by key_order_total (λ k. k)
ranked Descending = IsStrictWeakOrder-flip (λ k l. is_lt (key_order k l)) (ranks_by key_order_total (λ k. k))

neither : (o p : Ordering) → o ≡ ordering_reverse p → is_lt o ≡ false → is_lt p ≡ false → o ≡ Equal
neither Less p e a b = absurd cc
neither Equal p e a b = refl
neither Greater Less e a b = absurd cc
neither Greater Equal e a b = absurd cc
neither Greater Greater e a b = absurd cc

module _ (laws : Laws) where
  equal_trees : (o p : Option Tree) → key_order (key_at o) (key_at p) ≡ Equal → key_at o ≡ key_at p
  equal_trees None None e = refl
  equal_trees None (Some w) e = absurd (let ne = laws.apart (canon w) in let eq : is_ne (key_order no_element (value (canon w))) ≡ false = ap is_ne e in cc)
  equal_trees (Some v) None e = absurd (let ne = laws.apart (canon v) in let back : key_order no_element (value (canon v)) ≡ Equal = key_order_total.antisymm no_element (value (canon v)) ∙ ap ordering_reverse e in let eq : is_ne (key_order no_element (value (canon v))) ≡ false = ap is_ne back in cc)
  equal_trees (Some v) (Some w) e = ap value ((laws.same v w).0 (sym (laws.stand v w) ∙ e))

  equal_keys : (k l : KeyTree) → IsKey k → IsKey l → key_order k l ≡ Equal → k ≡ l
  equal_keys k l h a e = h.is ∙ equal_trees h.of a.of (ap (λ x. key_order x (key_at a.of)) (sym h.is) ∙ ap (key_order k) (sym a.is) ∙ e) ∙ sym a.is

  tied : (direction : Direction) (k l : KeyTree) → IsKey k → IsKey l → stands_first direction k l ≡ false → stands_first direction l k ≡ false → k ≡ l
  tied Ascending k l h a p q = equal_keys k l h a (neither (key_order k l) (key_order l k) (key_order_total.antisymm k l) p q)
  tied Descending k l h a p q = equal_keys k l h a (neither (key_order k l) (key_order l k) (key_order_total.antisymm k l) q p)

  -- keys that are the same as a set have the same earliest one
  pub earliest-same : (direction : Direction) (ks ls : List KeyTree) → AreKeys ks → AreKeys ls → ((q : KeyTree → Bool) → list_any q ks ≡ true → list_any q ls ≡ true) → ((q : KeyTree → Bool) → list_any q ls ≡ true → list_any q ks ≡ true) → earliest direction ks ≡ earliest direction ls
  earliest-same direction [] [] h a to from = refl
  earliest-same direction [] (l ∷ ls) h a to from = absurd (let some = from (λ _. true) refl in cc)
  earliest-same direction (k ∷ ks) [] h a to from = absurd (let some = to (λ _. true) refl in cc)
  earliest-same direction (k ∷ ks) (l ∷ ls) h a to from =
      let best = best_of (stands_first direction) k ks in
      let other = best_of (stands_first direction) l ls in
      let R = stands_first direction in
      let first = best-first R (ranked direction) k ks in
      let other_first = best-first R (ranked direction) l ls in
      tied direction best other (best-key R k ks h.0 h.1) (best-key R l ls a.0 a.1)
      (not_true (stands_first direction best other) (λ e. let some = to (λ x. stands_first direction x other) (best-in R (λ x. stands_first direction x other) k ks e) in cc))
      (not_true (stands_first direction other best) (λ e. let some = from (λ x. stands_first direction x best) (best-in R (λ x. stands_first direction x best) l ls e) in cc))

-- ---- folding
fold_append : {A B : Type 0} (f : A → B → A) (a : A) (xs ys : List B) → fold f a (xs ++ ys) ≡ fold f (fold f a xs) ys
fold_append f a [] ys = refl
fold_append f a (x ∷ xs) ys = fold_append f (f a x) xs ys

fold_some : (direction : Direction) (k : KeyTree) (ks : List KeyTree) → fold (earlier_with direction) (Some k) ks ≡ Some (best_of (stands_first direction) k ks)
fold_some direction k [] = refl
fold_some direction k (l ∷ ks) = fold_some direction (cond (stands_first direction l k) l k) ks

-- a key that was found, and else that of null
abbrev pub or_null : Option KeyTree → KeyTree
or_null None = key_at (Some null)
or_null (Some k) = k

folded-earliest : (direction : Direction) (ks : List KeyTree) → or_null (fold (earlier_with direction) None ks) ≡ earliest direction ks
folded-earliest direction [] = refl
folded-earliest direction (k ∷ ks) = ap or_null (fold_some direction k ks)

module _ {X E : Type 0} (seen : X → Candidate) (call : Option KeyTree → X → Result (Option KeyTree) E → Type 0) (direction : Direction) (steps : (t : Option KeyTree) (x : X) (u : Option KeyTree) → call t x (Ok u) → u ≡ fold (earlier_with direction) t (sort_keys_of (seen x))) where
  folded : (t u : Option KeyTree) (cs : List Candidate) → FoldsTo (Takes seen call) t cs u → u ≡ fold (earlier_with direction) t (flat_map sort_keys_of cs)
  folded t u [] h = sym h
  folded t u (c ∷ cs) h =
      let one : h.0 ≡ fold (earlier_with direction) t (sort_keys_of c) = steps t h.1.at h.0 h.1.gives ∙ ap (λ d. fold (earlier_with direction) t (sort_keys_of d)) h.1.is in
      folded h.0 u cs h.2 ∙ ap (λ s. fold (earlier_with direction) s (flat_map sort_keys_of cs)) one ∙ sym (fold_append (earlier_with direction) t (sort_keys_of c) (flat_map sort_keys_of cs))

  -- what a fold over the candidates leaves is the earliest of their keys
  pub folded-key : Laws → (cs : List Candidate) (u : Option KeyTree) → FoldsOver seen call (PassesOne cs) (PassesOne cs) None u → or_null u ≡ earliest direction (flat_map sort_keys_of cs)
  folded-key laws cs u h =
      let to = λ (q : KeyTree → Bool) (e : list_any q (flat_map sort_keys_of h.taken) ≡ true). any-flat_map q sort_keys_of cs ∙ (h.only (λ c. list_any q (sort_keys_of c)) (sym (any-flat_map q sort_keys_of h.taken) ∙ e)).passes in
      let from = λ (q : KeyTree → Bool) (e : list_any q (flat_map sort_keys_of cs) ≡ true). any-flat_map q sort_keys_of h.taken ∙ h.every (λ c. list_any q (sort_keys_of c)) (record { passes = sym (any-flat_map q sort_keys_of cs) ∙ e }) in
      ap or_null (folded None u h.taken h.calls) ∙ folded-earliest direction (flat_map sort_keys_of h.taken) ∙ earliest-same laws direction (flat_map sort_keys_of h.taken) (flat_map sort_keys_of cs) (keys-all h.taken) (keys-all cs) to from
