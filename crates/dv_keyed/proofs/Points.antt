-- The `_id`s under the keys of a list.
use Rattle.std.proofs.Common.{◌≡◌, ◌∙◌, ◌↔◌, List, [], ◌∷◌, refl, ap, sym, Bool, true, false, ◌||◌}
use Rattle.std.specs.List.{list_any}
use Rattle.std.specs.Ordering.{is_eq}
use Rattle.std.proofs.lemmas.Bool.{or_left, or_right}
use Rattle.std.proofs.lemmas.Cmp.{tied_itself}
use Rattle.dv_order.specs.Key.{KeyTree, key_order}
use Rattle.dv_order.specs.Inner.KeyLaws.{key_order_total}
use Rattle.dv_match.specs.Filter.{Condition}
use Rattle.dv_keyed.specs.Inner.Keys.{has_key}
use Rattle.dv_keyed.specs.Inner.Pairs.{Pair, has_pair}
use Rattle.dv_keyed.specs.Inner.Decided.{HasKeyWithin}
use Rattle.dv_keyed.specs.Inner.Within.{covers}
use Rattle.dv_keyed.specs.Inner.PairLaws.{same-key}

module _ (p : KeyTree → Bool) where
  -- a key of the list that passes a test
  some-among : (ks : List KeyTree) → list_any p ks ≡ true → (k : KeyTree) × (has_key k ks ≡ true) × (p k ≡ true)
  some-among [] e = absurd cc
  some-among (k ∷ ks) e = at (p k) refl e (some-among ks)
    where
      at : (b : Bool) → p k ≡ b → b || list_any p ks ≡ true → (list_any p ks ≡ true → (l : KeyTree) × (has_key l ks ≡ true) × (p l ≡ true)) → (l : KeyTree) × (has_key l (k ∷ ks) ≡ true) × (p l ≡ true)
      at true f g rest = (k, or_left (is_eq (key_order k k)) (has_key k ks) (ap is_eq (tied_itself key_order_total k)), f)
      at false f g rest = let r = rest g in (r.0, or_right (is_eq (key_order r.0 k)) (has_key r.0 ks) r.1, r.2)

  among-some : ((k l : KeyTree) → is_eq (key_order k l) ≡ true → p k ≡ p l) → (k : KeyTree) → p k ≡ true → (ks : List KeyTree) → has_key k ks ≡ true → list_any p ks ≡ true
  among-some alike k h [] e = absurd cc
  among-some alike k h (l ∷ ks) e = at (is_eq (key_order k l)) refl e (among-some alike k h ks)
    where
      at : (b : Bool) → is_eq (key_order k l) ≡ b → b || has_key k ks ≡ true → (has_key k ks ≡ true → list_any p ks ≡ true) → p l || list_any p ks ≡ true
      at true f g rest = or_left (p l) (list_any p ks) (sym (alike k l f) ∙ h)
      at false f g rest = or_right (p l) (list_any p ks) (rest g)

-- if the keys of the list are those in the bounds, the `_id`s under them are those that have a key in the bounds
pub at-points : (c : Condition) (ps : List Pair) (ids : List KeyTree) (i : KeyTree) (ks : List KeyTree) → ((k : KeyTree) → has_key k ks ≡ covers c k) → has_key i ids ≡ list_any (λ k. has_pair k i ps) ks → (has_key i ids ≡ true) ↔ HasKeyWithin c i ps
at-points c ps ids i ks keys found =
    let under = λ (k : KeyTree). has_pair k i ps in
    (λ e. let s = some-among under ks (sym found ∙ e) in (s.0, sym (keys s.0) ∙ s.1, s.2), λ w. found ∙ among-some under (λ k l e. same-key k l i ps e) w.0 w.2 ks (keys w.0 ∙ w.1))
