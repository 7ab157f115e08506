-- Pairs of keys that are under another `_id`, and the documents that have these keys.
use Rattle.std.proofs.Common.{◌≡◌, ◌∙◌, inl, inr, ℕ, List, [], ◌∷◌, refl, ap, sym, Bool, true, false, cond, not, ◌||◌, ◌&&◌, Option, Some, None}
use Rattle.std.specs.List.{AllByRecursion, list_any}
use Rattle.std.specs.Ordering.{is_eq}
use Rattle.std.proofs.lemmas.Bool.{and_from, and_parts, or_cases, or_left, or_right}
use Rattle.std.proofs.lemmas.Cmp.{alike_right, tied_itself}
use Rattle.std.proofs.Math.Bool.{and-true, and_comm}
use Rattle.dv_value.specs.Tree.{Field}
use Rattle.dv_value.specs.Inner.ListLaws.{same-truth}
use Rattle.dv_order.specs.Key.{KeyTree, key_order}
use Rattle.dv_order.specs.Inner.KeyLaws.{key_order_total, equal-back, equal-from}
use Rattle.dv_path.specs.LeafKeys.{is_leaf_key}
use Rattle.dv_coll.specs.Collection.{IsAscending, found, has_key as is_of, id_key}
use Rattle.dv_keyed.specs.Inner.Keys.{has_key}
use Rattle.dv_keyed.specs.Inner.Pairs.{Pair, has_pair, is_pair_of, is_under_another, pairs_without}
use Rattle.dv_keyed.specs.Inner.PairLaws.{same-key, same-id}
use Rattle.dv_keyed.specs.Inner.ListLaws.{any-and, any-kept}
use Rattle.dv_index.specs.Inner.Search.{is_key_under}
use Rattle.dv_index.specs.Unique.{are_apart, is_key_taken, share_key}
use Rattle.dv_index.proofs.Picked.{all-found}
use Rattle.dv_index.proofs.Shared.{any-or, any-weaker, leaf-same, share-both, share-from, some-of}

-- ---- pairs that are in `gone`

-- a pair that is that of a key and an `_id` is in `gone` exactly if theirs is
gone-alike : (gone : List Pair) (k i : KeyTree) (p : Pair) → not (has_pair p.0 p.1 gone) && is_pair_of k i p ≡ not (has_pair k i gone) && is_pair_of k i p
gone-alike gone k i p = at (is_pair_of k i p) refl
  where
    same : is_pair_of k i p ≡ true → has_pair p.0 p.1 gone ≡ has_pair k i gone
    same e = let parts = and_parts (is_eq (key_order k p.0)) (is_eq (key_order i p.1)) e in sym (same-key k p.0 i gone parts.0 ∙ same-id p.0 i p.1 gone parts.1)

    at : (b : Bool) → is_pair_of k i p ≡ b → not (has_pair p.0 p.1 gone) && b ≡ not (has_pair k i gone) && b
    at true e = ap (λ c. not c && true) (same e)
    at false e = and_comm (not (has_pair p.0 p.1 gone)) false ∙ and_comm false (not (has_pair k i gone))

pub has-left : (gone ps : List Pair) (k i : KeyTree) → has_pair k i (pairs_without gone ps) ≡ has_pair k i ps && not (has_pair k i gone)
has-left gone ps k i =
    any-kept (λ p. not (has_pair p.0 p.1 gone)) (is_pair_of k i) ps
    ∙ ap (λ t. list_any t ps) (λ j p. gone-alike gone k i p j)
    ∙ any-and (not (has_pair k i gone)) (is_pair_of k i) ps
    ∙ and_comm (not (has_pair k i gone)) (has_pair k i ps)

-- ---- pairs, by their keys and `_id`s
each-paired : (ps qs : List Pair) → ((k i : KeyTree) → has_pair k i qs ≡ true → has_pair k i ps ≡ true) → AllByRecursion (λ p. has_pair p.0 p.1 ps ≡ true) qs
each-paired ps [] h = tt
each-paired ps (q ∷ qs) h = (h q.0 q.1 (or_left (is_pair_of q.0 q.1 q) (has_pair q.0 q.1 qs) itself), each-paired ps qs (λ k i there. h k i (or_right (is_pair_of k i q) (has_pair k i qs) there)))
  where
    itself : is_pair_of q.0 q.1 q ≡ true
    itself = and_from (is_eq (key_order q.0 q.0)) (is_eq (key_order q.1 q.1)) (ap is_eq (tied_itself key_order_total q.0)) (ap is_eq (tied_itself key_order_total q.1))

-- a pair that passes a test
some-pair : (test : Pair → Bool) (ps : List Pair) → list_any test ps ≡ true → (p : Pair) × (has_pair p.0 p.1 ps ≡ true) × (test p ≡ true)
some-pair test ps = some-of (λ p. has_pair p.0 p.1 ps ≡ true) test ps (each-paired ps ps (λ k i h. h))

-- if a pair is there, and all pairs equal to it pass a test, some pair passes it
passes-pair : (test : Pair → Bool) (k i : KeyTree) → ((p : Pair) → is_eq (key_order k p.0) ≡ true → is_eq (key_order i p.1) ≡ true → test p ≡ true) → (ps : List Pair) → has_pair k i ps ≡ true → list_any test ps ≡ true
passes-pair test k i h ps there = any-weaker (is_pair_of k i) test (λ p e. let parts = and_parts (is_eq (key_order k p.0)) (is_eq (key_order i p.1)) e in h p parts.0 parts.1) ps there

-- ---- pairs that are those of documents
found-has : (i : KeyTree) (e : List Field) (ds : List (List Field)) → found i ds ≡ Some e → is_of i e ≡ true
found-has i e [] h = absurd cc
found-has i e (d ∷ ds) h = at (is_of i d) refl h (found-has i e ds)
  where
    at : (b : Bool) → is_of i d ≡ b → cond b (Some d) (found i ds) ≡ Some e → (found i ds ≡ Some e → is_of i e ≡ true) → is_of i e ≡ true
    at true is f rest = let same : d ≡ e = cc in ap (is_of i) (sym same) ∙ is
    at false is f rest = rest f

found-passes : (test : List Field → Bool) (i : KeyTree) (e : List Field) (ds : List (List Field)) → found i ds ≡ Some e → test e ≡ true → list_any test ds ≡ true
found-passes test i e [] h p = absurd cc
found-passes test i e (d ∷ ds) h p = at (is_of i d) h (found-passes test i e ds)
  where
    at : (b : Bool) → cond b (Some d) (found i ds) ≡ Some e → (found i ds ≡ Some e → test e ≡ true → list_any test ds ≡ true) → test d || list_any test ds ≡ true
    at true f rest = let same : d ≡ e = cc in or_left (test d) (list_any test ds) (ap test same ∙ p)
    at false f rest = or_right (test d) (list_any test ds) (rest f p)

under-some : (k : KeyTree) (path : List (List ℕ)) (o : Option (List Field)) → is_key_under k path o ≡ true → (e : List Field) × (o ≡ Some e) × (is_leaf_key k path e ≡ true)
under-some k path None h = absurd cc
under-some k path (Some e) h = (e, refl, h)

module _ (path : List (List ℕ)) (d : List Field) (ds : List (List Field)) (ascending : IsAscending ds) (ps : List Pair) (holds : (k i : KeyTree) → has_pair k i ps ≡ is_key_under k path (found i ds)) where
  abbrev leaf : KeyTree → Bool
  leaf k = is_leaf_key k path d

  abbrev taken : List Field → Bool
  taken e = not (is_of (id_key d) e) && share_key path d e

  to-document : is_under_another leaf (id_key d) ps ≡ true → is_key_taken path d ds ≡ true
  to-document under =
      let p = some-pair (λ q. leaf q.0 && not (is_eq (key_order (id_key d) q.1))) ps under in
      let parts = and_parts (leaf p.0.0) (not (is_eq (key_order (id_key d) p.0.1))) p.2 in
      let e = under-some p.0.0 path (found p.0.1 ds) (sym (holds p.0.0 p.0.1) ∙ p.1) in
      let same = equal-from (key_order p.0.1 (id_key e.0)) (found-has p.0.1 e.0 ds e.1) in
      found-passes taken p.0.1 e.0 ds e.1
      (and_from (not (is_of (id_key d) e.0)) (share_key path d e.0) (ap (λ o. not (is_eq o)) (sym (alike_right key_order_total p.0.1 (id_key e.0) (id_key d) same)) ∙ parts.1) (share-from path d e.0 p.0.0 parts.0 e.2))

  to-pair : is_key_taken path d ds ≡ true → is_under_another leaf (id_key d) ps ≡ true
  to-pair is =
      let e = some-of (λ x. found (id_key x) ds ≡ Some x) taken ds (all-found ds ascending) is in
      let parts = and_parts (not (is_of (id_key d) e.0)) (share_key path d e.0) e.2 in
      let k = share-both path d e.0 parts.1 in
      passes-pair (λ q. leaf q.0 && not (is_eq (key_order (id_key d) q.1))) k.0 (id_key e.0)
      (λ p same_key same_id. and_from (leaf p.0) (not (is_eq (key_order (id_key d) p.1))) (sym (leaf-same path d k.0 p.0 same_key) ∙ k.1) (ap (λ o. not (is_eq o)) (sym (alike_right key_order_total (id_key e.0) p.1 (id_key d) (equal-from (key_order (id_key e.0) p.1) same_id))) ∙ parts.0))
      ps (holds k.0 (id_key e.0) ∙ ap (is_key_under k.0 path) e.1 ∙ k.2)

  -- a key of the document is under another `_id` exactly if a document under another `_id` has it
  pub under-is-taken : (keys : List KeyTree) (id : KeyTree) → ((k : KeyTree) → has_key k keys ≡ is_leaf_key k path d) → id ≡ id_key d → is_under_another (λ k. has_key k keys) id ps ≡ is_key_taken path d ds
  under-is-taken keys id are is =
      (λ j. is_under_another (λ k. are k j) (is j) ps) ∙ same-truth (is_under_another leaf (id_key d) ps) (is_key_taken path d ds) to-document to-pair

-- ---- pairs of the documents before this one
-- a document has a key of some of these pairs
abbrev pub has-some : List (List ℕ) → List Pair → List Field → Bool
has-some path ps e = list_any (λ p. is_leaf_key p.0 path e) ps

-- if none of the pairs has the document's `_id`, all of them have another one
pub all-others : (test : KeyTree → Bool) (id : KeyTree) (ps : List Pair) → ((k i : KeyTree) → has_pair k i ps ≡ true → is_eq (key_order i id) ≡ false) → is_under_another test id ps ≡ list_any (λ p. test p.0) ps
all-others test id [] apart = refl
all-others test id (p ∷ ps) apart =
    (λ j. (test p.0 && not (other j)) || all-others test id ps (λ k i there. apart k i (or_right (is_pair_of k i p) (has_pair k i ps) there)) j) ∙ ap (λ b. b || list_any (λ q. test q.0) ps) (and-true (test p.0))
  where
    other : is_eq (key_order id p.1) ≡ false
    other = equal-back id p.1 ∙ apart p.0 p.1 (or_left (is_pair_of p.0 p.1 p) (has_pair p.0 p.1 ps) (and_from (is_eq (key_order p.0 p.0)) (is_eq (key_order p.1 p.1)) (ap is_eq (tied_itself key_order_total p.0)) (ap is_eq (tied_itself key_order_total p.1))))

module _ (path : List (List ℕ)) (d : List Field) (ps qs : List Pair) (more : (k i : KeyTree) → has_pair k i qs ≡ has_pair k i ps || (is_eq (key_order i (id_key d)) && is_leaf_key k path d)) where
  by-pair : (e : List Field) (rs : List Pair) (k i : KeyTree) → has_pair k i rs ≡ true → is_leaf_key k path e ≡ true → has-some path rs e ≡ true
  by-pair e rs k i there here = passes-pair (λ p. is_leaf_key p.0 path e) k i (λ p same other. sym (leaf-same path e k p.0 same) ∙ here) rs there

  more-has : (e : List Field) → has-some path qs e ≡ has-some path ps e || share_key path d e
  more-has e = same-truth (has-some path qs e) (has-some path ps e || share_key path d e) there back
    where
      there : has-some path qs e ≡ true → has-some path ps e || share_key path d e ≡ true
      there h =
          let p = some-pair (λ q. is_leaf_key q.0 path e) qs h in
          elim (or_cases (has_pair p.0.0 p.0.1 ps) (is_eq (key_order p.0.1 (id_key d)) && is_leaf_key p.0.0 path d) (sym (more p.0.0 p.0.1) ∙ p.1)) [
            | inl was ↦ or_left (has-some path ps e) (share_key path d e) (by-pair e ps p.0.0 p.0.1 was p.2)
            | inr new ↦ or_right (has-some path ps e) (share_key path d e) (share-from path d e p.0.0 (and_parts (is_eq (key_order p.0.1 (id_key d))) (is_leaf_key p.0.0 path d) new).1 p.2)
          ]

      back : has-some path ps e || share_key path d e ≡ true → has-some path qs e ≡ true
      back h =
          elim (or_cases (has-some path ps e) (share_key path d e) h) [
            | inl was ↦ (let p = some-pair (λ q. is_leaf_key q.0 path e) ps was in by-pair e qs p.0.0 p.0.1 (more p.0.0 p.0.1 ∙ or_left (has_pair p.0.0 p.0.1 ps) (is_eq (key_order p.0.1 (id_key d)) && is_leaf_key p.0.0 path d) p.1) p.2)
            | inr shares ↦ (let k = share-both path d e shares in
                by-pair e qs k.0 (id_key d) (more k.0 (id_key d) ∙ or_right (has_pair k.0 (id_key d) ps) (is_eq (key_order (id_key d) (id_key d)) && is_leaf_key k.0 path d) (and_from (is_eq (key_order (id_key d) (id_key d))) (is_leaf_key k.0 path d) (ap is_eq (tied_itself key_order_total (id_key d))) k.1)) k.2)
          ]

  step : (s a b : Bool) → (not s && a) && not (false || b) ≡ a && not (b || s)
  step true true true = refl
  step true true false = refl
  step true false b = refl
  step false true true = refl
  step false true false = refl
  step false false b = refl

  -- if this document is apart from those before it, all are apart exactly if the rest are apart from each other, from those, and
  -- from it
  pub still-apart-from : (ds : List (List Field)) → has-some path ps d ≡ false → are_apart path (d ∷ ds) && not (list_any (has-some path ps) (d ∷ ds)) ≡ are_apart path ds && not (list_any (has-some path qs) ds)
  still-apart-from ds free =
      ap (λ b. are_apart path (d ∷ ds) && not (b || list_any (has-some path ps) ds)) free
      ∙ step (list_any (share_key path d) ds) (are_apart path ds) (list_any (has-some path ps) ds)
      ∙ ap (λ b. are_apart path ds && not b) (sym (ap (λ t. list_any t ds) (λ j e. more-has e j) ∙ any-or (has-some path ps) (share_key path d) ds))

-- and if it is not, they are not
not-apart-from : (path : List (List ℕ)) (d : List Field) (ps : List Pair) (ds : List (List Field)) → has-some path ps d ≡ true → are_apart path (d ∷ ds) && not (list_any (has-some path ps) (d ∷ ds)) ≡ false
not-apart-from path d ps ds taken = ap (λ b. are_apart path (d ∷ ds) && not (b || list_any (has-some path ps) ds)) taken ∙ and_comm (are_apart path (d ∷ ds)) false

pub broken-by : (path : List (List ℕ)) (d : List Field) (ps : List Pair) (ds all : List (List Field)) (unique : Bool) → ((k i : KeyTree) → has_pair k i ps ≡ true → is_eq (key_order i (id_key d)) ≡ false) → unique && is_under_another (λ k. is_leaf_key k path d) (id_key d) ps ≡ true
    → (unique ≡ true → are_apart path all ≡ are_apart path (d ∷ ds) && not (list_any (has-some path ps) (d ∷ ds))) → unique && not (are_apart path all) ≡ true
broken-by path d ps ds all unique apart under left =
    let parts = and_parts unique (is_under_another (λ k. is_leaf_key k path d) (id_key d) ps) under in
    and_from unique (not (are_apart path all)) parts.0 (ap not (left parts.0 ∙ not-apart-from path d ps ds (sym (all-others (λ k. is_leaf_key k path d) (id_key d) ps apart) ∙ parts.1)))
