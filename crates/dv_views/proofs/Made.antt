-- Documents in order after one change.
use Rattle.std.proofs.Common.{◌≡◌, Bool, true, false, not, List, [], ◌∷◌, map, None, Some, is_some, cond, refl, ap, sym, ◌∙◌}
use Rattle.std.specs.Bool.{if◌then◌else◌}
use Rattle.std.specs.BTreeMap.{insert_entry, is_at}
use Rattle.std.specs.List.{AllByRecursion}
use Rattle.std.specs.List.Sorted.{IsStrictlySortedBy}
use Rattle.std.specs.Map.{remove_entry, values_of}
use Rattle.std.specs.Ordering.{is_eq, is_lt, match_ordering}
use Rattle.std.specs.declared.cmp.Ordering.{Ordering}
use Rattle.std.specs.declared.cmp.Ordering.TheVariants.{Less, Equal, Greater}
use Rattle.dv_order.specs.Key.{KeyTree, key_order}
use Rattle.dv_order.specs.Inner.KeyLaws.{key_order_total, equal-from}
use Rattle.dv_order.specs.Inner.TotalOrder.{then_Equal}
use Rattle.dv_coll.specs.Collection.{IsAscending, id_key, has_key, found, inserted, removed, replaced}
use Rattle.dv_change.specs.declared.change.Change.TheVariants.{Put, Gone}
use Rattle.dv_change.specs.declared.position.Part.TheVariants.{Up}
use Rattle.dv_change.specs.Changes.{Positioned, at}
use Rattle.dv_change.specs.Positions.{pos_order}
use Rattle.dv_pipe.specs.Sources.{Row}
use Rattle.dv_views.specs.Changed.{documents_changed}
use Rattle.dv_views.specs.Placed.{own_position, positioned}

-- no document of the list has the key
abbrev AreApart : KeyTree → List Row → Type 0
AreApart k ds = AllByRecursion (λ d. has_key k d ≡ false) ds

-- the documents come after a key: each has a greater one
abbrev Follow : KeyTree → List Row → Type 0
Follow k ds = AllByRecursion (λ l. key_order k l ≡ Less) (map id_key ds)

apart-below : (k l : KeyTree) (ds : List Row) → key_order k l ≡ Less → Follow l ds → AreApart k ds
apart-below k l [] here behind = tt
apart-below k l (d ∷ ds) here behind = (ap is_eq (key_order_total.trans k l (id_key d) here behind.0), apart-below k l ds here behind.1)

apart-beside : (k l : KeyTree) (ds : List Row) → key_order k l ≡ Equal → Follow l ds → AreApart k ds
apart-beside k l [] here behind = tt
apart-beside k l (d ∷ ds) here behind = (ap is_eq (key_order_total.congr k l (id_key d) here ∙ behind.0), apart-beside k l ds here behind.1)

apart-found : (k : KeyTree) (ds : List Row) → AreApart k ds → found k ds ≡ None
apart-found k [] apart = refl
apart-found k (d ∷ ds) apart = ap (λ b. cond b (Some d) (found k ds)) apart.0 ∙ apart-found k ds apart.1

apart-replaced : (d : Row) (ds : List Row) → AreApart (id_key d) ds → replaced d ds ≡ ds
apart-replaced d [] apart = refl
apart-replaced d (e ∷ ds) apart = (λ i. cond (apart.0 i) d e ∷ replaced d ds) ∙ ap (λ es. e ∷ es) (apart-replaced d ds apart.1)

apart-removed : (k : KeyTree) (ds : List Row) → AreApart k ds → removed k ds ≡ ds
apart-removed k [] apart = refl
apart-removed k (d ∷ ds) apart = ap (λ b. cond (not b) (d ∷ removed k ds) (removed k ds)) apart.0 ∙ ap (λ es. d ∷ es) (apart-removed k ds apart.1)

abbrev wanted : Row → List Row → List Row
wanted d ds = if is_some (found (id_key d) ds) then replaced d ds else inserted d ds

-- documents without their positions
pub forgotten : (ds : List Row) → values_of (positioned ds) ≡ ds
forgotten [] = refl
forgotten (d ∷ ds) = ap (λ es. d ∷ es) (forgotten ds)

-- at the position of a key is the document that is found under the key
pub found_at : (k : KeyTree) (ds : List Row) → at (Up k ∷ []) (positioned ds) ≡ found k ds
found_at k [] = refl
found_at k (d ∷ ds) = λ i. cond (is_eq (then_Equal (key_order k (id_key d)) i)) (Some d) (found_at k ds i)

module _ (d e : Row) (ds : List Row) where
  -- e and the documents after it, with d put among them, by the order of d and e
  abbrev met : Ordering → List Row
  met o = if is_some (cond (is_eq o) (Some e) (found (id_key d) ds)) then cond (is_eq o) d e ∷ replaced d ds else cond (is_lt o) (d ∷ e ∷ ds) (e ∷ inserted d ds)

  behind-kept : (b : Bool) → e ∷ cond b (replaced d ds) (inserted d ds) ≡ cond b (e ∷ replaced d ds) (e ∷ inserted d ds)
  behind-kept true = refl
  behind-kept false = refl

  put-met : (o : Ordering) (rest : Positioned) → (o ≡ Less → AreApart (id_key d) ds) → (o ≡ Equal → AreApart (id_key d) ds) → values_of rest ≡ wanted d ds
      → values_of (match_ordering o ((own_position d, d) ∷ (own_position e, e) ∷ positioned ds) ((own_position e, d) ∷ positioned ds) ((own_position e, e) ∷ rest)) ≡ met o
  put-met Less rest below beside same =
      ap (λ es. d ∷ e ∷ es) (forgotten ds) ∙ ap (λ r. if is_some r then e ∷ replaced d ds else d ∷ e ∷ ds) (sym (apart-found (id_key d) ds (below refl)))
  put-met Equal rest below beside same = ap (λ es. d ∷ es) (forgotten ds) ∙ ap (λ es. d ∷ es) (sym (apart-replaced d ds (beside refl)))
  put-met Greater rest below beside same = ap (λ es. e ∷ es) same ∙ behind-kept (is_some (found (id_key d) ds))

pub put_made : (d : Row) (ds : List Row) → IsAscending ds → documents_changed (Put (own_position d) d ∷ []) ds ≡ wanted d ds
unfolding IsStrictlySortedBy
put_made d [] ascending = refl
put_made d (e ∷ ds) ascending =
    ap (λ o. values_of (match_ordering o ((own_position d, d) ∷ (own_position e, e) ∷ positioned ds) ((own_position e, d) ∷ positioned ds) ((own_position e, e) ∷ insert_entry pos_order (positioned ds) (own_position d) d)))
    (then_Equal (key_order (id_key d) (id_key e)))
    ∙ put-met d e ds (key_order (id_key d) (id_key e)) _ (λ here. apart-below (id_key d) (id_key e) ds here ascending.0) (λ here. apart-beside (id_key d) (id_key e) ds here ascending.0) (put_made d ds ascending.1)

-- ---- a removed document

gone-met : (k : KeyTree) (d : Row) (ds : List Row) (b : Bool) (rest : Positioned) → (b ≡ true → removed k ds ≡ ds) → values_of rest ≡ removed k ds
    → values_of (cond b (positioned ds) ((own_position d, d) ∷ rest)) ≡ cond (not b) (d ∷ removed k ds) (removed k ds)
gone-met k d ds true rest only same = forgotten ds ∙ sym (only refl)
gone-met k d ds false rest only same = ap (λ es. d ∷ es) same

pub gone_made : (k : KeyTree) (ds : List Row) → IsAscending ds → documents_changed (Gone (Up k ∷ []) ∷ []) ds ≡ removed k ds
unfolding IsStrictlySortedBy
gone_made k [] ascending = refl
gone_made k (d ∷ ds) ascending =
    ap (λ o. values_of (cond (is_eq o) (positioned ds) ((own_position d, d) ∷ remove_entry (is_at (pos_order (Up k ∷ []))) (positioned ds)))) (then_Equal (key_order k (id_key d)))
    ∙ gone-met k d ds (is_eq (key_order k (id_key d))) _
    (λ here. apart-removed k ds (apart-beside k (id_key d) ds (equal-from _ here) ascending.0)) (gone_made k ds ascending.1)
