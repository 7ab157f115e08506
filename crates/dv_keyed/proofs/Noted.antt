-- Which `_id`s have several keys when pairs are added and removed.
use Rattle.std.proofs.Common.{◌≡◌, ◌∙◌, ◌≤◌, ◌++◌, arith, length, List, [], ◌∷◌, refl, ap, sym, Bool, true, false, not, ◌||◌, ◌&&◌, Result, Ok, Err, OnOk, OnErr}
use Rattle.std.specs.Ordering.{is_eq}
use Rattle.std.proofs.lemmas.Bool.{or_left, or_right, or_parts}
use Rattle.std.proofs.lemmas.Cmp.{alike_right}
use Rattle.std.proofs.lemmas.List.Folds.{list_any-append}
use Rattle.std.proofs.Math.Bool.{or-false, and-true}
use Rattle.dv_order.specs.Key.{KeyTree, key_order}
use Rattle.dv_order.specs.Inner.KeyLaws.{key_order_total, equal-from}
use Rattle.dv_keyed.specs.Inner.Keys.{has_key}
use Rattle.dv_keyed.specs.Inner.Pairs.{AreNoted, IsOnlyKey, Pair, has_pair}
use Rattle.dv_keyed.specs.Inner.PairLaws.{same-id}

either-way : {T E P Q G : Type 0} (r : Result T E) → OnOk r P → OnErr r Q → (P → G) → (Q → G) → G
either-way (Ok x) p q f g = f p
either-way (Err e) p q f g = g q

-- two keys of a list that has at most one
one-of : (k l : KeyTree) (ks : List KeyTree) → length ks ≤ 1 → has_key k ks ≡ true → has_key l ks ≡ true → is_eq (key_order l k) ≡ true
one-of k l [] few e f = absurd cc
one-of k l (m ∷ []) few e f =
    ap is_eq (alike_right key_order_total k m l (equal-from (key_order k m) (sym (or-false (is_eq (key_order k m))) ∙ e))) ∙ sym (or-false (is_eq (key_order l m))) ∙ f
one-of k l (m ∷ n ∷ ks) few e f = absurd (omega arith)

-- pairs are removed, or more `_id`s are noted
pub noted-still : (several more : List KeyTree) (ps qs : List Pair) → AreNoted several ps → ((i : KeyTree) → has_key i more ≡ false → has_key i several ≡ false) → ((k i : KeyTree) → has_pair k i qs ≡ true → has_pair k i ps ≡ true) → AreNoted more qs
noted-still several more ps qs h grown kept i out k there l also = h i (grown i out) k (kept k i there) l (kept l i also)

pub less-kept : (a b : Bool) → a && b ≡ true → a ≡ true
less-kept true b e = refl
less-kept false b e = e

was-there : (o p : Bool) → o || (p && false) ≡ true → o ≡ true
was-there true p e = refl
was-there false true e = e
was-there false false e = e

is-added : (o p : Bool) → o ≡ false → o || (p && true) ≡ true → p ≡ true
is-added true p none e = absurd cc
is-added false true none e = refl
is-added false false none e = e

-- the `_id` that gains keys is noted, or a single new key is all that it has
noted-added : (several more ks : List KeyTree) (ps qs : List Pair) (id : KeyTree) (b : Bool) → AreNoted several ps → ((i : KeyTree) → has_key i more ≡ has_key i several || (b && is_eq (key_order i id))) → ((k i : KeyTree) → has_pair k i qs ≡ has_pair k i ps || (has_key k ks && is_eq (key_order i id)))
    → (b ≡ false → (length ks ≤ 1) × ((k : KeyTree) → has_pair k id ps ≡ false)) → AreNoted more qs
noted-added several more ks ps qs id b h noted added alone i out k there l also = at (is_eq (key_order i id)) b refl refl
  where
    outside : has_key i several || (b && is_eq (key_order i id)) ≡ false
    outside = sym (noted i) ∙ out

    new : (m : KeyTree) → is_eq (key_order i id) ≡ true → has_pair m id ps ≡ false → has_pair m i qs ≡ true → has_key m ks ≡ true
    new m e none held =
        is-added (has_pair m i ps) (has_key m ks) (same-id m i id ps e ∙ none) (ap (λ s. has_pair m i ps || (has_key m ks && s)) (sym e) ∙ sym (added m i) ∙ held)

    old : (m : KeyTree) → is_eq (key_order i id) ≡ false → has_pair m i qs ≡ true → has_pair m i ps ≡ true
    old m e held = was-there (has_pair m i ps) (has_key m ks) (ap (λ s. has_pair m i ps || (has_key m ks && s)) (sym e) ∙ sym (added m i) ∙ held)

    never : (a : Bool) → a || true ≡ false → ⊥
    never true e = absurd cc
    never false e = absurd cc

    at : (s c : Bool) → is_eq (key_order i id) ≡ s → b ≡ c → is_eq (key_order l k) ≡ true
    at true true e f = absurd (never (has_key i several) ((λ j. has_key i several || (sym f j && sym e j)) ∙ outside))
    at true false e f = one-of k l ks (alone f).0 (new k e ((alone f).1 k) there) (new l e ((alone f).1 l) also)
    at false c e f = h i (or_parts (has_key i several) (b && is_eq (key_order i id)) outside).0 k (old k e there) l (old l e also)

-- whether the pairs are added or memory runs out
pub noted-either : {T E : Type 0} (r : Result T E) (several more ks : List KeyTree) (ps qs : List Pair) (id : KeyTree) (b : Bool) → AreNoted several ps → ((i : KeyTree) → has_key i more ≡ has_key i several || (b && is_eq (key_order i id))) → OnOk r ((k i : KeyTree) → has_pair k i qs ≡ has_pair k i ps || (has_key k ks && is_eq (key_order i id)))
    → OnErr r ((k i : KeyTree) → has_pair k i qs ≡ has_pair k i ps) → (b ≡ false → (length ks ≤ 1) × ((k : KeyTree) → has_pair k id ps ≡ false)) → AreNoted more qs
noted-either r several more ks ps qs id b h noted ok err alone =
    either-way r ok err (λ added. noted-added several more ks ps qs id b h noted added alone) (λ same. noted-still several more ps qs h (λ i out. (or_parts (has_key i several) (b && is_eq (key_order i id)) (sym (noted i) ∙ out)).0) (λ k i there. sym (same k i) ∙ there))

-- an `_id` without keys
pub none-held : (k : KeyTree) (held : List KeyTree) (b : Bool) → held ≡ [] → (b ≡ true → has_key k held ≡ true) → b ≡ false
none-held k held true none h = sym (h refl) ∙ ap (has_key k) none
none-held k held false none h = refl

-- an `_id` that has at most one key needn't be noted
pub settled : (several less left : List KeyTree) (ps : List Pair) (id : KeyTree) → AreNoted several ps → ((i : KeyTree) → has_key i less ≡ has_key i several && not (is_eq (key_order i id))) → length left ≤ 1 → ((k : KeyTree) → has_pair k id ps ≡ true → has_key k left ≡ true) → AreNoted less ps
settled several less left ps id h noted few held i out k there l also = at (is_eq (key_order i id)) refl
  where
    at : (s : Bool) → is_eq (key_order i id) ≡ s → is_eq (key_order l k) ≡ true
    at true e = one-of k l left few (held k (sym (same-id k i id ps e) ∙ there)) (held l (sym (same-id l i id ps e) ∙ also))
    at false e = h i (sym (and-true (has_key i several)) ∙ ap (λ s. has_key i several && not s) (sym e) ∙ sym (noted i) ∙ out) k there l also

-- an `_id` that is found if its key is the only one, or else among those that are noted
pub found-anyway : (several before : List KeyTree) (ps : List Pair) → AreNoted several ps → (k i : KeyTree) → has_pair k i ps ≡ true → (IsOnlyKey k i ps → has_key i before ≡ true) → has_key i (before ++ several) ≡ true
found-anyway several before ps h k i there only = list_any-append _ before several ∙ at (has_key i several) refl
  where
    at : (b : Bool) → has_key i several ≡ b → has_key i before || has_key i several ≡ true
    at true e = or_right (has_key i before) (has_key i several) e
    at false e = or_left (has_key i before) (has_key i several) (only (h i e k there))
