-- Which pairs of an index have keys between two ends.
use Rattle.std.proofs.Common.{◌≡◌, ◌∙◌, ◌++◌, List, [], ◌∷◌, map, refl, ap, sym, Bool, true, false, cond, not, ◌||◌, ◌&&◌, filter}
use Rattle.std.specs.declared.cmp.Ordering.TheVariants.{Equal}
use Rattle.std.specs.declared.ops.Bound.{Bound}
use Rattle.std.specs.declared.ops.Bound.TheVariants.{Included, Excluded, Unbounded}
use Rattle.std.specs.Ordering.{is_eq, is_lt, is_le}
use Rattle.std.specs.BTreeMap.Range.{is_from_start, is_past_end, range_contains}
use Rattle.std.proofs.lemmas.Cmp.{alike_right, tied_itself}
use Rattle.std.proofs.lemmas.Bool.{or_left, or_right}
use Rattle.std.proofs.lemmas.List.Elements.{filter-append}
use Rattle.std.proofs.lemmas.List.Folds.{list_any-append}
use Rattle.dv_order.specs.Key.{KeyTree, key_order}
use Rattle.dv_order.specs.Inner.KeyLaws.{key_order_total, equal-from}
use Rattle.dv_keyed.specs.Inner.Keys.{has_key}
use Rattle.dv_keyed.specs.Inner.Pairs.{Pair, has_pair, has_id, is_pair_of, pairs_of}
use Rattle.dv_keyed.proofs.Entries.{Entry}
use Rattle.dv_value.specs.Inner.ListLaws.{any-map}

-- the `_id`s of the pairs of one key, and of the others
pub ids-of-entry : (i : KeyTree) (e : Entry) (es : List Entry) → has_id i (pairs_of (e ∷ es)) ≡ has_key i e.1 || has_id i (pairs_of es)
ids-of-entry i e es = list_any-append _ (map (λ id. (e.0, id)) e.1) (pairs_of es) ∙ ap (λ b. b || has_id i (pairs_of es)) (any-map _ (λ id. (e.0, id)) e.1)

module _ (test : KeyTree → Bool) where
  of-one-key : (k : KeyTree) (ids : List KeyTree) → filter (λ (p : Pair). test p.0) (map (λ id. (k, id)) ids) ≡ cond (test k) (map (λ id. (k, id)) ids) []
  of-one-key k ids = at (test k) refl ids
    where
      at : (b : Bool) → test k ≡ b → (is : List KeyTree) → filter (λ (p : Pair). test p.0) (map (λ id. (k, id)) is) ≡ cond b (map (λ id. (k, id)) is) []
      at true e [] = refl
      at true e (i ∷ is) = ap (λ b. cond b ((k, i) ∷ filter (λ (p : Pair). test p.0) (map (λ id. (k, id)) is)) (filter (λ (p : Pair). test p.0) (map (λ id. (k, id)) is))) e ∙ ap (λ ps. (k, i) ∷ ps) (at true e is)
      at false e [] = refl
      at false e (i ∷ is) = ap (λ b. cond b ((k, i) ∷ filter (λ (p : Pair). test p.0) (map (λ id. (k, id)) is)) (filter (λ (p : Pair). test p.0) (map (λ id. (k, id)) is))) e ∙ at false e is

  -- the pairs of the keys that pass a test
  pub pairs-between : (es : List Entry) → pairs_of (filter (λ e. test e.0) es) ≡ filter (λ (p : Pair). test p.0) (pairs_of es)
  pairs-between [] = refl
  pairs-between (e ∷ es) =
      at (test e.0) (pairs-between es) ∙ ap (λ ps. ps ++ filter (λ (p : Pair). test p.0) (pairs_of es)) (sym (of-one-key e.0 e.1)) ∙ sym (filter-append (λ (p : Pair). test p.0) (map (λ id. (e.0, id)) e.1) (pairs_of es))
    where
      at : (b : Bool) → pairs_of (filter (λ f. test f.0) es) ≡ filter (λ (p : Pair). test p.0) (pairs_of es) → pairs_of (cond b (e ∷ filter (λ f. test f.0) es) (filter (λ f. test f.0) es)) ≡ cond b (map (λ id. (e.0, id)) e.1) [] ++ filter (λ (p : Pair). test p.0) (pairs_of es)
      at true rest = ap (λ ps. map (λ id. (e.0, id)) e.1 ++ ps) rest
      at false rest = rest

same-start : (low : Bound KeyTree) (k l : KeyTree) → key_order k l ≡ Equal → is_from_start key_order low k ≡ is_from_start key_order low l
same-start (Included a) k l e = ap is_le (alike_right key_order_total k l a e)
same-start (Excluded a) k l e = ap is_lt (alike_right key_order_total k l a e)
same-start Unbounded k l e = refl

same-end : (high : Bound KeyTree) (k l : KeyTree) → key_order k l ≡ Equal → is_past_end key_order high k ≡ is_past_end key_order high l
same-end (Included b) k l e = ap is_lt (alike_right key_order_total k l b e)
same-end (Excluded b) k l e = ap is_le (alike_right key_order_total k l b e)
same-end Unbounded k l e = refl

parts-equal : (k i : KeyTree) (x : Pair) → is_eq (key_order k x.0) && is_eq (key_order i x.1) ≡ true → (key_order k x.0 ≡ Equal) × (is_eq (key_order i x.1) ≡ true)
parts-equal k i x e = at (is_eq (key_order k x.0)) refl e
  where
    at : (b : Bool) → is_eq (key_order k x.0) ≡ b → b && is_eq (key_order i x.1) ≡ true → (key_order k x.0 ≡ Equal) × (is_eq (key_order i x.1) ≡ true)
    at true f g = (equal-from (key_order k x.0) f, g)
    at false f g = absurd cc

-- the `_id` of a pair is found between the ends if its key is there
pub found-within : (low high : Bound KeyTree) (k i : KeyTree) (ps : List Pair) (was : Bool) → range_contains key_order low high k ≡ true → has_pair k i ps ≡ true → was || has_id i (filter (λ p. range_contains key_order low high p.0) ps) ≡ true
found-within low high k i ps was inside e = or_right was _ (go ps e)
  where
    within : Pair → Bool
    within p = range_contains key_order low high p.0

    there : (x : Pair) → key_order k x.0 ≡ Equal → within x ≡ true
    there x same = sym (λ j. same-start low k x.0 same j && not (same-end high k x.0 same j)) ∙ inside

    step : (x : Pair) (rest : List Pair) (a b : Bool) → is_eq (key_order k x.0) && is_eq (key_order i x.1) ≡ a → within x ≡ b → (has_pair k i rest ≡ true → has_id i (filter within rest) ≡ true) → a || has_pair k i rest ≡ true → has_id i (cond b (x ∷ filter within rest) (filter within rest)) ≡ true
    step x rest true true h g ih f = ap (λ b. b || has_id i (filter within rest)) (parts-equal k i x h).1
    step x rest true false h g ih f = absurd (let inside-too = there x (parts-equal k i x h).0 in cc)
    step x rest false true h g ih f = or_right (is_eq (key_order i x.1)) _ (ih f)
    step x rest false false h g ih f = ih f

    go : (qs : List Pair) → has_pair k i qs ≡ true → has_id i (filter within qs) ≡ true
    go [] f = absurd cc
    go (x ∷ qs) f = step x qs (is_eq (key_order k x.0) && is_eq (key_order i x.1)) (within x) refl refl (go qs) f

-- and an `_id` that is found there has a key there
module _ (within : KeyTree → Bool) (i : KeyTree) where
  some-key : (ps : List Pair) → has_id i (filter (λ p. within p.0) ps) ≡ true → (k : KeyTree) × (within k ≡ true) × (has_pair k i ps ≡ true)
  some-key [] e = absurd cc
  some-key (x ∷ ps) e = at (within x.0) (is_eq (key_order i x.1)) refl refl e (some-key ps)
    where
      kept : List Pair
      kept = filter (λ p. within p.0) ps

      at : (a b : Bool) → within x.0 ≡ a → is_eq (key_order i x.1) ≡ b → has_id i (cond a (x ∷ kept) kept) ≡ true → (has_id i kept ≡ true → (k : KeyTree) × (within k ≡ true) × (has_pair k i ps ≡ true)) → (k : KeyTree) × (within k ≡ true) × (has_pair k i (x ∷ ps) ≡ true)
      at true true g h f rest = (x.0, g, or_left (is_pair_of x.0 i x) (has_pair x.0 i ps) (λ j. is_eq (tied_itself key_order_total x.0 j) && h j))
      at true false g h f rest = let r = rest (ap (λ b. b || has_id i kept) (sym h) ∙ f) in (r.0, r.1, or_right (is_pair_of r.0 i x) (has_pair r.0 i ps) r.2)
      at false b g h f rest = let r = rest f in (r.0, r.1, or_right (is_pair_of r.0 i x) (has_pair r.0 i ps) r.2)

  pub found-between : (ps : List Pair) (was : Bool) → was ≡ false → was || has_id i (filter (λ p. within p.0) ps) ≡ true → (k : KeyTree) × (within k ≡ true) × (has_pair k i ps ≡ true)
  found-between ps was none e = some-key ps (ap (λ b. b || has_id i (filter (λ p. within p.0) ps)) (sym none) ∙ e)
