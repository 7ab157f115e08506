-- Keys in a list when one is added or removed.
use Rattle.std.proofs.Common.{◌≡◌, ◌∙◌, List, [], ◌∷◌, ◌++◌, refl, ap, sym, Bool, true, false, cond, not, ◌||◌, ◌&&◌, filter}
use Rattle.std.specs.BTreeMap.Range.{range_contains}
use Rattle.std.specs.Ordering.{is_eq, is_lt}
use Rattle.std.specs.declared.ops.Bound.TheVariants.{Excluded, Unbounded}
use Rattle.std.proofs.lemmas.Cmp.{alike_right}
use Rattle.std.proofs.lemmas.List.Folds.{list_any-append}
use Rattle.std.proofs.Math.Bool.{or-false}
use Rattle.dv_order.specs.Key.{KeyTree, key_order}
use Rattle.dv_order.specs.Inner.KeyLaws.{key_order_total, equal-back, equal-from}
use Rattle.dv_keyed.specs.Inner.Keys.{has_key}
use Rattle.dv_keyed.proofs.Bars.{turned}
use Rattle.dv_keyed.proofs.Several.{any-filter}
use Rattle.dv_keyed.specs.Inner.PairLaws.{same-member}

-- one alone
pub alone : (i id : KeyTree) → has_key i (id ∷ []) ≡ is_eq (key_order i id)
alone i id = or-false (is_eq (key_order i id))

-- one more
pub one-behind : (i id : KeyTree) (ks : List KeyTree) → has_key i (ks ++ id ∷ []) ≡ has_key i ks || is_eq (key_order i id)
one-behind i id ks = list_any-append (λ l. is_eq (key_order i l)) ks (id ∷ []) ∙ ap (λ b. has_key i ks || b) (alone i id)

pub two : (i first second : KeyTree) → has_key i (first ∷ second ∷ []) ≡ has_key i (first ∷ []) || is_eq (key_order i second)
two i first second = one-behind i second (first ∷ [])

-- one that is there
pub there-already : (i id : KeyTree) (ks : List KeyTree) → has_key id ks ≡ true → has_key i ks ≡ has_key i ks || is_eq (key_order i id)
there-already i id ks there = at (is_eq (key_order i id)) refl
  where
    at : (b : Bool) → is_eq (key_order i id) ≡ b → has_key i ks ≡ has_key i ks || b
    at true same = let is : has_key i ks ≡ true = same-member i id ks same ∙ there in is ∙ ap (λ b. b || true) (sym is)
    at false other = sym (or-false (has_key i ks))

-- one is removed
pub dropped : (i id : KeyTree) (ks : List KeyTree) → has_key i (filter (λ l. not (is_eq (key_order id l))) ks) ≡ has_key i ks && not (is_eq (key_order i id))
dropped i id ks =
    any-filter (λ l. is_eq (key_order i l)) (λ l. not (is_eq (key_order id l))) (not (is_eq (key_order i id)))
    (λ l same. ap not (sym (ap is_eq (alike_right key_order_total i l id (equal-from (key_order i l) same))) ∙ equal-back id i)) ks

none-left : (a b : Bool) → a ≡ b → false ≡ a && not b
none-left true b e = ap not e
none-left false b e = refl

-- the only one is removed, or stays
pub alone-dropped : (i id first : KeyTree) → is_eq (key_order id first) ≡ true → false ≡ has_key i (first ∷ []) && not (is_eq (key_order i id))
alone-dropped i id first same = none-left (has_key i (first ∷ [])) (is_eq (key_order i id)) (alone i first ∙ sym (ap is_eq (alike_right key_order_total id first i (equal-from (key_order id first) same))))

pub alone-stays : (i id first : KeyTree) → is_eq (key_order id first) ≡ false → has_key i (first ∷ []) ≡ has_key i (first ∷ []) && not (is_eq (key_order i id))
alone-stays i id first other = ap (λ b. has_key i (cond b [] (first ∷ []))) (sym other) ∙ kept (is_eq (key_order id first)) ∙ dropped i id (first ∷ [])
  where
    kept : (b : Bool) → has_key i (cond b [] (first ∷ [])) ≡ has_key i (cond (not b) (first ∷ []) [])
    kept true = refl
    kept false = refl

-- one is removed from a set
pub cond-and-not : (b a : Bool) → cond b false a ≡ a && not b
cond-and-not true true = refl
cond-and-not true false = refl
cond-and-not false true = refl
cond-and-not false false = refl

-- ---- those before an end
pub front-has : (until i : KeyTree) (ks : List KeyTree) → has_key i (filter (λ l. is_lt (key_order l until)) ks) ≡ has_key i ks && is_lt (key_order i until)
front-has until i ks =
    any-filter (λ l. is_eq (key_order i l)) (λ l. is_lt (key_order l until)) (is_lt (key_order i until)) (λ l same. sym (ap is_lt (key_order_total.congr i l until (equal-from (key_order i l) same)))) ks

pub front-between : (until : KeyTree) (ks : List KeyTree) → filter (range_contains key_order Unbounded (Excluded until)) ks ≡ filter (λ l. is_lt (key_order l until)) ks
front-between until ks = ap (λ p. filter p ks) (λ j l. (turned (key_order until l) ∙ sym (ap is_lt (key_order_total.antisymm l until))) j)
