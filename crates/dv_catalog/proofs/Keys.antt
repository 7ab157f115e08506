-- Documents and their keys.
use Rattle.std.proofs.Common.{◌≡◌, Bool, true, false, cond, List, [], ◌∷◌, map, Option, Some, None, is_some, refl, sym, subst}
use Rattle.std.specs.Prelude.{⊤}
use Rattle.std.specs.List.{AllByRecursion}
use Rattle.std.specs.List.Sorted.{IsStrictlySortedBy}
use Rattle.std.specs.Ordering.{ordering_reverse, is_eq}
use Rattle.std.specs.declared.cmp.Ordering.{Ordering}
use Rattle.std.specs.declared.cmp.Ordering.TheVariants.{Less, Equal, Greater}
use Rattle.dv_value.specs.Tree.{Field}
use Rattle.dv_coll.specs.Collection.{IsAscending, found, has_key, id_key}
use Rattle.dv_match.specs.Filter.{Members}
use Rattle.dv_match.specs.Match.{matches}
use Rattle.dv_order.specs.Key.{KeyTree, key_order}
use Rattle.dv_order.specs.Inner.KeyLaws.{key_order_total}
use Rattle.dv_catalog.specs.Scan.{matching}
use Rattle.dv_catalog.specs.State.{AreOrdered, Standing, collection_at}

-- for each of these documents there is one with an equal `_id`
abbrev pub AreThere : List (List Field) → List (List Field) → Type 0
AreThere documents others = AllByRecursion (λ d. is_some (found (id_key d) documents) ≡ true) others

-- a key is equal to itself
beside_itself : (o : Ordering) → o ≡ ordering_reverse o → is_eq o ≡ true
beside_itself Less same = absurd cc
beside_itself Equal same = refl
beside_itself Greater same = absurd cc

pub own_key : (d : List Field) → has_key (id_key d) d ≡ true
own_key d = beside_itself (key_order (id_key d) (id_key d)) (key_order_total.antisymm (id_key d) (id_key d))

found_first : (b : Bool) (d : List Field) (there : Option (List Field)) → b ≡ true → is_some (cond b (Some d) there) ≡ true
found_first true d there is = refl
found_first false d there is = absurd cc

found_behind : (b : Bool) (d : List Field) (there : Option (List Field)) → is_some there ≡ true → is_some (cond b (Some d) there) ≡ true
found_behind true d there is = refl
found_behind false d there is = is

all_behind : (d : List Field) (documents others : List (List Field)) → AreThere documents others → AreThere (d ∷ documents) others
all_behind d documents [] all = tt
all_behind d documents (e ∷ es) all = (found_behind (has_key (id_key e) d) d (found (id_key e) documents) all.0, all_behind d documents es all.1)

-- documents are among themselves
pub all_there : (documents : List (List Field)) → AreThere documents documents
all_there [] = tt
all_there (d ∷ ds) = (found_first (has_key (id_key d) d) d (found (id_key d) ds) (own_key d), all_behind d ds ds (all_there ds))

-- each document is before all later ones
abbrev pub AreBefore : List (List Field) → Type 0
AreBefore [] = ⊤
AreBefore (d ∷ ds) = AllByRecursion (λ e. key_order (id_key d) (id_key e) ≡ Less) ds × AreBefore ds

all_before : (k : KeyTree) (ds : List (List Field)) → AllByRecursion (λ l. key_order k l ≡ Less) (map id_key ds) → AllByRecursion (λ e. key_order k (id_key e) ≡ Less) ds
all_before k [] all = tt
all_before k (d ∷ ds) all = (all.0, all_before k ds all.1)

pub before_ascending : (ds : List (List Field)) → IsAscending ds → AreBefore ds
unfolding IsStrictlySortedBy
before_ascending [] ascending = tt
before_ascending (d ∷ ds) ascending = (all_before (id_key d) ds ascending.0, before_ascending ds ascending.1)

-- each matching document is before all later ones that match
kept_behind : (k : KeyTree) (b : Bool) (d : List Field) (ds : List (List Field)) → key_order k (id_key d) ≡ Less → AllByRecursion (λ e. key_order k (id_key e) ≡ Less) ds
    → AllByRecursion (λ e. key_order k (id_key e) ≡ Less) (cond b (d ∷ ds) ds)
kept_behind k true d ds here all = (here, all)
kept_behind k false d ds here all = all

behind_matching : (k : KeyTree) (form : Members) (ds : List (List Field)) → AllByRecursion (λ e. key_order k (id_key e) ≡ Less) ds → AllByRecursion (λ e. key_order k (id_key e) ≡ Less) (matching form ds)
behind_matching k form [] all = tt
behind_matching k form (d ∷ ds) all = kept_behind k (matches form d) d (matching form ds) all.0 (behind_matching k form ds all.1)

kept_before : (b : Bool) (d : List Field) (ds : List (List Field)) → AllByRecursion (λ e. key_order (id_key d) (id_key e) ≡ Less) ds → AreBefore ds → AreBefore (cond b (d ∷ ds) ds)
kept_before true d ds here before = (here, before)
kept_before false d ds here before = before

pub before_matching : (form : Members) (ds : List (List Field)) → AreBefore ds → AreBefore (matching form ds)
before_matching form [] before = tt
before_matching form (d ∷ ds) before = kept_before (matches form d) d (matching form ds) (behind_matching (id_key d) form ds before.0) (before_matching form ds before.1)

pub none_ordered : AreOrdered []
unfolding IsStrictlySortedBy
none_ordered = (tt, tt)

-- the documents of a namespace that doesn't exist
pub ordered_none : (there : Option Standing) → there ≡ None → AreOrdered (collection_at there).documents
ordered_none there none = subst (λ (s : Option Standing). AreOrdered (collection_at s).documents) (sym none) none_ordered
