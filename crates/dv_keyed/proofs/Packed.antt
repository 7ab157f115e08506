-- A tree that is built of entries in their order has their pairs.
use Rattle.std.proofs.Common.{◌≡◌, ◌∙◌, List, ap, sym, refl}
use Rattle.std.proofs.lemmas.Map.Keys.{IsDistinct-from_sorted}
use Rattle.std.proofs.lemmas.Map.Made.{update_all_none}
use Rattle.std.specs.BTreeMap.{BTreeMap, IsFromIterResult}
use Rattle.std.specs.Cmp.{eq_by_cmp_equiv}
use Rattle.std.specs.List.Sorted.{IsStrictlySortedBy}
use Rattle.std.specs.Map.{keys_of}
use Rattle.std.specs.Ordering.{eq_by_cmp}
use Rattle.dv_order.specs.Key.{KeyTree, key_order}
use Rattle.dv_order.specs.Inner.KeyLaws.{key_order_total}
use Rattle.dv_keyed.specs.Inner.Ids.{has_in}
use Rattle.dv_keyed.specs.Inner.Pairs.{has_pair, pairs_of}
use Rattle.dv_keyed.proofs.Entries.{Entry, pair-found}

pub same_pairs : (n : BTreeMap KeyTree (List KeyTree)) (es : List Entry) → IsStrictlySortedBy key_order (keys_of es) → IsFromIterResult key_order es n → (k i : KeyTree) → has_pair k i (pairs_of n.entries) ≡ has_pair k i (pairs_of es)
same_pairs n es sorted made k i =
    pair-found k i n.entries made.1
    ∙ ap (has_in i) (made.0 k ∙ update_all_none (eq_by_cmp_equiv key_order_total) (eq_by_cmp key_order) (λ x y. refl) es k (IsDistinct-from_sorted key_order (keys_of es) sorted))
    ∙ sym (pair-found k i es sorted)
