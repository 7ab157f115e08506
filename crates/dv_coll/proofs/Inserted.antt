-- What an insertion leaves.
use Rattle.std.proofs.Common.{◌≡◌, Bool, true, false, List, [], ◌∷◌, Option, None, Some, cond, refl, ap, ◌∙◌}
use Rattle.std.specs.List.Sorted.{IsStrictlySortedBy}
use Rattle.std.specs.Cmp.{Equal-is}
use Rattle.std.specs.Ordering.{is_lt, is_eq, ordering_reverse}
use Rattle.std.specs.declared.cmp.Ordering.{Ordering}
use Rattle.std.specs.declared.cmp.Ordering.TheVariants.{Less, Equal, Greater}
use Rattle.dv_value.specs.Tree.{Field}
use Rattle.dv_order.specs.Key.{KeyTree, key_order}
use Rattle.dv_order.specs.Inner.KeyLaws.{key_order_total}
use Rattle.dv_coll.specs.Collection.{IsAscending, id_key, has_key, found, inserted}
use Rattle.dv_coll.proofs.Places.{Follow}

-- what is found nowhere is neither the first document nor among the rest
absent_first : (b : Bool) (d : List Field) (r : Option (List Field)) → cond b (Some d) r ≡ None → b ≡ false
absent_first true d r e = cc
absent_first false d r e = refl

absent_behind : (b : Bool) (d : List Field) (r : Option (List Field)) → cond b (Some d) r ≡ None → r ≡ None
absent_behind true d r e = cc
absent_behind false d r e = e

module _ (k : KeyTree) where
  follow-earlier : (l : KeyTree) (ds : List (List Field)) → key_order k l ≡ Less → Follow l ds → Follow k ds
  follow-earlier l [] before h = tt
  follow-earlier l (d ∷ ds) before h = (key_order_total.trans k l (id_key d) before h.0, follow-earlier l ds before h.1)

  follow-placed : (o : Ordering) (d e : List Field) (ds es : List (List Field)) → key_order k (id_key d) ≡ Less → Follow k (e ∷ ds) → Follow k es → Follow k (cond (is_lt o) (d ∷ e ∷ ds) (e ∷ es))
  follow-placed Less d e ds es before h rest = (before, h)
  follow-placed Equal d e ds es before h rest = (h.0, rest)
  follow-placed Greater d e ds es before h rest = (h.0, rest)

  follow-inserted : (d : List Field) (ds : List (List Field)) → key_order k (id_key d) ≡ Less → Follow k ds → Follow k (inserted d ds)
  follow-inserted d [] before h = (before, tt)
  follow-inserted d (e ∷ ds) before h = follow-placed _ d e ds _ before h (follow-inserted d ds before h.1)

ascending-placed : (o : Ordering) (d e : List Field) (ds es : List (List Field)) → key_order (id_key d) (id_key e) ≡ o → is_eq o ≡ false → IsAscending (e ∷ ds) → IsAscending es → (key_order (id_key e) (id_key d) ≡ Less → Follow (id_key e) es) → IsAscending (cond (is_lt o) (d ∷ e ∷ ds) (e ∷ es))
unfolding IsStrictlySortedBy
ascending-placed Less d e ds es order apart ascending rest follow = ((order, follow-earlier (id_key d) (id_key e) ds order ascending.0), ascending)
ascending-placed Equal d e ds es order apart ascending rest follow = cc
ascending-placed Greater d e ds es order apart ascending rest follow =
    (follow (key_order_total.antisymm (id_key e) (id_key d) ∙ ap ordering_reverse order), rest)

pub inserted_ascending : (d : List Field) (ds : List (List Field)) → IsAscending ds → found (id_key d) ds ≡ None → IsAscending (inserted d ds)
unfolding IsStrictlySortedBy
inserted_ascending d [] ascending absent = (tt, tt)
inserted_ascending d (e ∷ ds) ascending absent =
    ascending-placed _ d e ds _ refl (absent_first _ e _ absent) ascending
    (inserted_ascending d ds ascending.1 (absent_behind _ e _ absent)) (λ before. follow-inserted (id_key e) d ds before ascending.0)

-- it doesn't matter which of two documents is tested first, if at most one passes
found-swap : (p q : Bool) (d e : List Field) (r : Option (List Field)) → (p ≡ true → q ≡ false) → cond q (Some e) (cond p (Some d) r) ≡ cond p (Some d) (cond q (Some e) r)
found-swap false q d e r apart = refl
found-swap true q d e r apart = ap (λ b. cond b (Some e) (Some d)) (apart refl)

found-placed : (o : Ordering) (k : KeyTree) (d e : List Field) (ds es : List (List Field)) → found k es ≡ cond (has_key k d) (Some d) (found k ds) → (has_key k d ≡ true → has_key k e ≡ false) → found k (cond (is_lt o) (d ∷ e ∷ ds) (e ∷ es)) ≡ cond (has_key k d) (Some d) (found k (e ∷ ds))
found-placed Less k d e ds es rest apart = refl
found-placed Equal k d e ds es rest apart = ap (cond (has_key k e) (Some e)) rest ∙ found-swap (has_key k d) (has_key k e) d e (found k ds) apart
found-placed Greater k d e ds es rest apart = ap (cond (has_key k e) (Some e)) rest ∙ found-swap (has_key k d) (has_key k e) d e (found k ds) apart

pub found_inserted : (k : KeyTree) (d : List Field) (ds : List (List Field)) → found (id_key d) ds ≡ None → found k (inserted d ds) ≡ cond (has_key k d) (Some d) (found k ds)
found_inserted k d [] absent = refl
found_inserted k d (e ∷ ds) absent =
    found-placed _ k d e ds _ (found_inserted k d ds (absent_behind _ e _ absent))
    (λ here. ap is_eq (key_order_total.congr k (id_key d) (id_key e) ((Equal-is _).0 here)) ∙ absent_first _ e _ absent)
