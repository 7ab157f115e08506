-- Equal keys: they are in the same sets and pairs.
use Rattle.std.proofs.Common.{◌≡◌, ◌∙◌, List, [], ◌∷◌, refl, ap, sym, true, not, ◌&&◌, filter}
use Rattle.std.proofs.Math.Bool.{and_comm}
use Rattle.std.proofs.lemmas.Map.Views.{any-filter_same}
use Rattle.std.specs.List.{list_any}
use Rattle.std.specs.Ordering.{is_eq}
use Rattle.dv_order.specs.Key.{KeyTree, key_order}
use Rattle.dv_order.specs.Inner.KeyLaws.{key_order_total, equal-from}
use Rattle.dv_keyed.specs.Inner.Keys.{has_key}
use Rattle.dv_keyed.specs.Inner.Pairs.{Pair, has_pair, pairs_without}

pub same-member : (k l : KeyTree) (ks : List KeyTree) → is_eq (key_order k l) ≡ true → has_key k ks ≡ has_key l ks
same-member k l ks e = ap (λ t. list_any t ks) (λ j m. is_eq (key_order_total.congr k l m (equal-from (key_order k l) e) j))

-- the keys of a set that are not in another
pub keys-left : (ks ls : List KeyTree) (k : KeyTree) → has_key k (filter (λ l. not (has_key l ls)) ks) ≡ has_key k ks && not (has_key k ls)
keys-left ks ls k =
    any-filter_same (λ l. is_eq (key_order k l)) (λ l. not (has_key l ls)) (not (has_key k ls)) (λ l e. ap not (sym (same-member k l ls e))) ks ∙ and_comm (not (has_key k ls)) (has_key k ks)

-- equal keys have the same pairs
pub same-key : (k l id : KeyTree) (ps : List Pair) → is_eq (key_order k l) ≡ true → has_pair k id ps ≡ has_pair l id ps
same-key k l id ps e = ap (λ t. list_any t ps) (λ j p. is_eq (key_order_total.congr k l p.0 (equal-from (key_order k l) e) j) && is_eq (key_order id p.1))

-- and so do equal `_id`s
pub same-id : (k i id : KeyTree) (ps : List Pair) → is_eq (key_order i id) ≡ true → has_pair k i ps ≡ has_pair k id ps
same-id k i id ps e = ap (λ t. list_any t ps) (λ j p. is_eq (key_order k p.0) && is_eq (key_order_total.congr i id p.1 (equal-from (key_order i id) e) j))

pub none-gone : (ps : List Pair) → pairs_without [] ps ≡ ps
none-gone [] = refl
none-gone (p ∷ ps) = ap (λ qs. p ∷ qs) (none-gone ps)
