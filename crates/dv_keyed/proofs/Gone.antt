-- Keys that are searched for under another `_id`, one after the other, in pairs that are not in `gone`.
use Rattle.std.proofs.Common.{◌≡◌, ◌∙◌, List, [], ◌∷◌, refl, ap, sym, Bool, true, false, not, ◌||◌, ◌&&◌}
use Rattle.std.proofs.Math.Bool.{and-true, and_comm}
use Rattle.std.specs.List.{list_any}
use Rattle.std.specs.Ordering.{is_eq}
use Rattle.dv_order.specs.Key.{KeyTree, key_order}
use Rattle.dv_order.specs.Inner.KeyLaws.{equal-back}
use Rattle.dv_keyed.specs.Inner.Keys.{has_key}
use Rattle.dv_keyed.specs.Inner.Pairs.{Pair, has_another_at, has_pair, is_under_another, pairs_without}
use Rattle.dv_keyed.specs.Inner.PairLaws.{same-key}
use Rattle.dv_keyed.specs.Inner.ListLaws.{any-and, any-kept, or-shuffled}

any-swap : {X Y : Type 0} (r : X → Y → Bool) (xs : List X) (ys : List Y) → list_any (λ x. list_any (λ y. r x y) ys) xs ≡ list_any (λ y. list_any (λ x. r x y) xs) ys
any-swap {Y = Y} r [] ys = sym (never ys)
  where
    never : (zs : List Y) → list_any (λ y. false) zs ≡ false
    never [] = refl
    never (z ∷ zs) = never zs
any-swap {Y = Y} r (x ∷ xs) ys = ap (λ b. list_any (λ y. r x y) ys || b) (any-swap r xs ys) ∙ sym (merged ys)
  where
    merged : (zs : List Y) → list_any (λ y. r x y || list_any (λ x. r x y) xs) zs ≡ list_any (λ y. r x y) zs || list_any (λ y. list_any (λ x. r x y) xs) zs
    merged [] = refl
    merged (z ∷ zs) = ap (λ b. (r x z || list_any (λ x. r x z) xs) || b) (merged zs) ∙ or-shuffled (r x z) (list_any (λ x. r x z) xs) (list_any (λ y. r x y) zs) (list_any (λ y. list_any (λ x. r x y) xs) zs)

-- ---- keys are searched for under another `_id`, one after the other
module _ (keys : List KeyTree) (id : KeyTree) (gone ps : List Pair) where
  abbrev other : Pair → Bool
  other p = not (is_eq (key_order id p.1))

  moved : (k : KeyTree) (p : Pair) → is_eq (key_order k p.0) && (other p && not (has_pair k p.1 gone)) ≡ is_eq (key_order k p.0) && (other p && not (has_pair p.0 p.1 gone))
  moved k p = at (is_eq (key_order k p.0)) refl
    where
      at : (b : Bool) → is_eq (key_order k p.0) ≡ b → b && (other p && not (has_pair k p.1 gone)) ≡ b && (other p && not (has_pair p.0 p.1 gone))
      at true e = ap (λ c. other p && not c) (same-key k p.0 p.1 gone e)
      at false e = refl

  turned : (h n g : Bool) → (n && g) && h ≡ g && (h && n)
  turned true n g = and-true (n && g) ∙ and_comm n g
  turned false n g = and_comm (n && g) false ∙ and_comm false g

  gathered : (p : Pair) → list_any (λ k. is_eq (key_order k p.0) && (other p && not (has_pair p.0 p.1 gone))) keys ≡ not (has_pair p.0 p.1 gone) && (has_key p.0 keys && other p)
  gathered p =
      ap (λ t. list_any t keys) (λ j k. ((ap (λ b. b && (other p && not (has_pair p.0 p.1 gone))) (equal-back k p.0)) ∙ and_comm (is_eq (key_order p.0 k)) (other p && not (has_pair p.0 p.1 gone))) j)
      ∙ any-and (other p && not (has_pair p.0 p.1 gone)) (λ k. is_eq (key_order p.0 k)) keys
      ∙ turned (has_key p.0 keys) (other p) (not (has_pair p.0 p.1 gone))

  pub each-key : list_any (λ k. has_another_at k id gone ps) keys ≡ is_under_another (λ k. has_key k keys) id (pairs_without gone ps)
  each-key =
      ap (λ t. list_any t keys) (λ j k. list_any (λ p. moved k p j) ps)
      ∙ any-swap (λ k p. is_eq (key_order k p.0) && (other p && not (has_pair p.0 p.1 gone))) keys ps
      ∙ ap (λ t. list_any t ps) (λ j p. gathered p j)
      ∙ sym (any-kept (λ p. not (has_pair p.0 p.1 gone)) (λ p. has_key p.0 keys && other p) ps)
