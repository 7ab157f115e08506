-- Keys that two documents have.
use Rattle.std.proofs.Common.{◌≡◌, ◌∙◌, ℕ, List, [], ◌∷◌, refl, ap, sym, Bool, true, false, ◌||◌}
use Rattle.std.specs.List.{AllByRecursion, list_any}
use Rattle.std.specs.Ordering.{is_eq}
use Rattle.std.proofs.lemmas.Bool.{or_left, or_right}
use Rattle.std.proofs.lemmas.Cmp.{tied_itself}
use Rattle.dv_value.specs.Tree.{Field, Tree}
use Rattle.dv_value.specs.Inner.ListLaws.{same-truth}
use Rattle.dv_order.specs.Key.{KeyTree, key_order, value}
use Rattle.dv_order.specs.Inner.KeyLaws.{key_order_total, equal-from}
use Rattle.dv_order.specs.Order.{canon}
use Rattle.dv_path.specs.LeafKeys.{is_key_of, is_leaf_key, is_some_key, leaf_values}
use Rattle.dv_index.specs.Unique.{share_key}
use Rattle.dv_keyed.specs.Inner.ListLaws.{or-shuffled}

-- ---- tests of lists
module _ {X : Type 0} where
  -- one that passes, and what is known of it
  pub some-of : (P : X → Type 0) (p : X → Bool) (xs : List X) → AllByRecursion P xs → list_any p xs ≡ true → (x : X) × P x × (p x ≡ true)
  some-of P p [] all e = absurd cc
  some-of P p (x ∷ xs) all e = at (p x) refl e (some-of P p xs all.1)
    where
      at : (b : Bool) → p x ≡ b → b || list_any p xs ≡ true → (list_any p xs ≡ true → (y : X) × P y × (p y ≡ true)) → (y : X) × P y × (p y ≡ true)
      at true is f rest = (x, all.0, is)
      at false is f rest = rest f

  pub any-weaker : (p q : X → Bool) → ((x : X) → p x ≡ true → q x ≡ true) → (xs : List X) → list_any p xs ≡ true → list_any q xs ≡ true
  any-weaker p q h [] e = e
  any-weaker p q h (x ∷ xs) e = at (p x) refl e (any-weaker p q h xs)
    where
      at : (b : Bool) → p x ≡ b → b || list_any p xs ≡ true → (list_any p xs ≡ true → list_any q xs ≡ true) → q x || list_any q xs ≡ true
      at true is f rest = or_left (q x) (list_any q xs) (h x is)
      at false is f rest = or_right (q x) (list_any q xs) (rest f)

  pub any-false : (p q : X → Bool) → ((x : X) → p x ≡ true → q x ≡ true) → (xs : List X) → list_any q xs ≡ false → list_any p xs ≡ false
  any-false p q h xs e = same-truth (list_any p xs) false (λ some. sym e ∙ any-weaker p q h xs some) (λ no. absurd cc)

  pub any-or : (p q : X → Bool) (xs : List X) → list_any (λ x. p x || q x) xs ≡ list_any p xs || list_any q xs
  any-or p q [] = refl
  any-or p q (x ∷ xs) = ap (λ b. (p x || q x) || b) (any-or p q xs) ∙ or-shuffled (p x) (q x) (list_any p xs) (list_any q xs)

  pub any-never : (xs : List X) → list_any (λ x. false) xs ≡ false
  any-never [] = refl
  any-never (x ∷ xs) = any-never xs

-- ---- one document's keys
module _ (path : List (List ℕ)) (d : List Field) where
  -- of two equal keys both are among them, or neither is
  pub leaf-same : (k l : KeyTree) → is_eq (key_order k l) ≡ true → is_leaf_key k path d ≡ is_leaf_key l path d
  unfolding is_leaf_key
  leaf-same k l e = ap (λ t. list_any t (leaf_values path d)) (λ j v. is_eq (key_order_total.congr k l (value (canon v)) (equal-from (key_order k l) e) j))

  each-is-key : (vs ws : List Tree) → ((k : KeyTree) → is_some_key k ws ≡ true → is_some_key k vs ≡ true) → AllByRecursion (λ v. is_some_key (value (canon v)) vs ≡ true) ws
  each-is-key vs [] h = tt
  each-is-key vs (w ∷ ws) h =
      (h (value (canon w)) (or_left (is_key_of (value (canon w)) w) (is_some_key (value (canon w)) ws) (ap is_eq (tied_itself key_order_total (value (canon w))))), each-is-key vs ws (λ k e. h k (or_right (is_key_of k w) (is_some_key k ws) e)))

  -- a key that both documents have
  pub share-both : (e : List Field) → share_key path d e ≡ true → (k : KeyTree) × (is_leaf_key k path d ≡ true) × (is_leaf_key k path e ≡ true)
  unfolding share_key is_leaf_key
  share-both e shares =
      let some = some-of (λ v. is_some_key (value (canon v)) (leaf_values path d) ≡ true) (λ v. is_leaf_key (value (canon v)) path e) (leaf_values path d) (each-is-key (leaf_values path d) (leaf_values path d) (λ k h. h)) shares in
      (value (canon some.0), some.1, some.2)

pub share-from : (path : List (List ℕ)) (d e : List Field) (k : KeyTree) → is_leaf_key k path d ≡ true → is_leaf_key k path e ≡ true → share_key path d e ≡ true
unfolding share_key is_leaf_key
share-from path d e k here there =
    any-weaker (is_key_of k) (λ v. is_leaf_key (value (canon v)) path e) (λ v same. sym (leaf-same path e k (value (canon v)) same) ∙ there) (leaf_values path d) here

pub share-back : (path : List (List ℕ)) (d e : List Field) → share_key path d e ≡ share_key path e d
share-back path d e =
    same-truth (share_key path d e) (share_key path e d) (λ h. let k = share-both path d e h in share-from path e d k.0 k.2 k.1) (λ h. let k = share-both path e d h in share-from path d e k.0 k.2 k.1)
