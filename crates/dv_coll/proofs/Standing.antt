-- Documents that are found under their `_id`s as they are.
use Rattle.std.proofs.Common.{◌≡◌, Bool, true, false, List, [], ◌∷◌, filter, take, Some, cond, ap, ◌∙◌}
use Rattle.std.specs.List.{AllByRecursion}
use Rattle.std.specs.List.Sorted.{IsStrictlySortedBy}
use Rattle.std.specs.Option.{option_map}
use Rattle.std.specs.Cmp.{tied_itself}
use Rattle.std.specs.Ordering.{is_eq, ordering_reverse}
use Rattle.std.specs.declared.cmp.Ordering.TheVariants.{Less}
use Rattle.dv_value.specs.Tree.{Field}
use Rattle.dv_order.specs.Key.{KeyTree, key_order}
use Rattle.dv_order.specs.Inner.KeyLaws.{key_order_total}
use Rattle.dv_coll.specs.Collection.{AreStanding, IsAscending, found, has_key, id_key, replaced}
use Rattle.dv_coll.proofs.Places.{Follow}
use Rattle.dv_coll.proofs.Removed.{ascending-kept, follow-kept}
use Rattle.dv_coll.proofs.Replaced.{found_replaced}

-- the document is found under its `_id` as it is
abbrev IsStanding : List (List Field) → List Field → Type 0
IsStanding ds d = found (id_key d) ds ≡ Some d

-- an earlier document doesn't have the key of a later one
later-apart : (d e : List Field) → key_order (id_key d) (id_key e) ≡ Less → has_key (id_key e) d ≡ false
later-apart d e before = ap is_eq (key_order_total.antisymm (id_key e) (id_key d) ∙ ap ordering_reverse before)

found-behind : (d : List Field) (ds es : List (List Field)) → Follow (id_key d) es → AllByRecursion (IsStanding ds) es → AllByRecursion (IsStanding (d ∷ ds)) es
found-behind d ds [] follow all = tt
found-behind d ds (e ∷ es) follow all =
    (ap (λ b. cond b (Some d) (found (id_key e) ds)) (later-apart d e follow.0) ∙ all.0, found-behind d ds es follow.1 all.1)

each-found : (ds : List (List Field)) → IsAscending ds → AllByRecursion (IsStanding ds) ds
unfolding IsStrictlySortedBy
each-found [] ascending = tt
each-found (d ∷ ds) ascending =
    (ap (λ o. cond (is_eq o) (Some d) (found (id_key d) ds)) (tied_itself key_order_total (id_key d)), found-behind d ds ds ascending.0 (each-found ds ascending.1))

pub stands_all : (ds : List (List Field)) → IsAscending ds → AreStanding ds ds
stands_all ds ascending = (each-found ds ascending, ascending)

-- ---- fewer of them

module _ (p : List Field → Bool) where
  all-kept : (Q : List Field → Type 0) (b : Bool) (d : List Field) (ds : List (List Field)) → Q d → AllByRecursion Q ds → AllByRecursion Q (cond b (d ∷ ds) ds)
  all-kept Q true d ds here rest = (here, rest)
  all-kept Q false d ds here rest = rest

  all-passing : (Q : List Field → Type 0) (ds : List (List Field)) → AllByRecursion Q ds → AllByRecursion Q (filter p ds)
  all-passing Q [] all = tt
  all-passing Q (d ∷ ds) all = all-kept Q (p d) d (filter p ds) all.0 (all-passing Q ds all.1)

  follow-passing : (k : KeyTree) (ds : List (List Field)) → Follow k ds → Follow k (filter p ds)
  follow-passing k [] h = tt
  follow-passing k (d ∷ ds) h = follow-kept k (p d) d (filter p ds) h.0 (follow-passing k ds h.1)

  ascending-passing : (ds : List (List Field)) → IsAscending ds → IsAscending (filter p ds)
  unfolding IsStrictlySortedBy
  ascending-passing [] h = tt
  ascending-passing (d ∷ ds) h = ascending-kept (p d) d (filter p ds) (follow-passing (id_key d) ds h.0) (ascending-passing ds h.1)

pub stands_passing : (p : List Field → Bool) (ds those : List (List Field)) → AreStanding ds those → AreStanding ds (filter p those)
stands_passing p ds those stand = (all-passing p (IsStanding ds) those stand.0, ascending-passing p those stand.1)

pub stands_first : (ds those : List (List Field)) → AreStanding ds those → AreStanding ds (take 1 those)
unfolding IsStrictlySortedBy
stands_first ds [] stand = (tt, tt)
stands_first ds (d ∷ those) stand = ((stand.0.0, tt), (tt, tt))

-- ---- after one is put in place of another

module _ (d : List Field) (ds : List (List Field)) where
  found-still : (e : List Field) → has_key (id_key e) d ≡ false → IsStanding ds e → IsStanding (replaced d ds) e
  found-still e apart stands =
      found_replaced (id_key e) d ds
      ∙ ap (λ b. cond b (option_map (λ x. d) (found (id_key e) ds)) (found (id_key e) ds)) apart
      ∙ stands

  all-still : (those : List (List Field)) → Follow (id_key d) those → AllByRecursion (IsStanding ds) those → AllByRecursion (IsStanding (replaced d ds)) those
  all-still [] follow all = tt
  all-still (e ∷ es) follow all = (found-still e (later-apart d e follow.0) all.0, all-still es follow.1 all.1)

follow-same : (k l : KeyTree) (those : List (List Field)) → k ≡ l → Follow l those → Follow k those
follow-same k l [] same follow = tt
follow-same k l (e ∷ es) same follow = (ap (λ m. key_order m (id_key e)) same ∙ follow.0, follow-same k l es same follow.1)

pub stands_others : (d e : List Field) (ds those : List (List Field)) → AreStanding ds (e ∷ those) → id_key d ≡ id_key e → AreStanding (replaced d ds) those
unfolding IsStrictlySortedBy
stands_others d e ds those stand same =
    (all-still d ds those (follow-same (id_key d) (id_key e) those same stand.1.0) stand.0.1, stand.1.1)

pub ruleset standing = (stands_all, stands_passing, stands_first, stands_others)
