-- What a removal leaves.
use Rattle.std.proofs.Common.{◌≡◌, Bool, true, false, not, List, [], ◌∷◌, map, Option, None, Some, cond, refl, ap, sym, subst, ◌∙◌, arith}
use Rattle.std.specs.List.{AllByRecursion}
use Rattle.std.specs.List.Sorted.{IsStrictlySortedBy}
use Rattle.std.specs.Map.{keys_of, values_of, remove_entry}
use Rattle.std.specs.BTreeMap.{is_at}
use Rattle.std.specs.Ordering.{is_eq}
use Rattle.std.specs.Bool.{if◌then◌else◌}
use Rattle.std.specs.Cmp.{Equal-is, alike_right}
use Rattle.std.specs.declared.cmp.Ordering.TheVariants.{Less}
use Rattle.dv_value.specs.Tree.{Field}
use Rattle.dv_order.specs.Key.{KeyTree, key_order}
use Rattle.dv_order.specs.Inner.KeyLaws.{key_order_total}
use Rattle.dv_coll.specs.Collection.{HasId, IsAscending, id_key, has_key, found, removed}
use Rattle.dv_coll.proofs.Places.{Entries, Follow}

-- no document of the list has the key
abbrev pub AreApart : KeyTree → List (List Field) → Type 0
AreApart k ds = AllByRecursion (λ d. has_key k d ≡ false) ds

-- after the document that has the key, no other one has it
pub apart_behind : (k l : KeyTree) (ds : List (List Field)) → is_eq (key_order k l) ≡ true → Follow l ds → AreApart k ds
apart_behind k l [] here behind = tt
apart_behind k l (d ∷ ds) here behind = (ap is_eq (key_order_total.congr k l (id_key d) ((Equal-is _).0 here) ∙ behind.0), apart_behind k l ds here behind.1)

removed_apart : (k : KeyTree) (ds : List (List Field)) → AreApart k ds → removed k ds ≡ ds
removed_apart k [] apart = refl
removed_apart k (d ∷ ds) apart = grind (arith, removed_apart k ds)

removed-placed : (k : KeyTree) (b : Bool) (f : KeyTree × List Field) (es fs : Entries) → (b ≡ true → removed k (values_of es) ≡ values_of es) → values_of fs ≡ removed k (values_of es)
    → values_of (cond b es (f ∷ fs)) ≡ cond (not b) (f.1 ∷ removed k (values_of es)) (removed k (values_of es))
removed-placed k true f es fs only rest = sym (only refl)
removed-placed k false f es fs only rest = ap (λ ds. f.1 ∷ ds) rest

pub values-remove_entry : (k : KeyTree) (es : Entries) → keys_of es ≡ map id_key (values_of es) → IsStrictlySortedBy key_order (keys_of es) → values_of (remove_entry (is_at (key_order k)) es) ≡ removed k (values_of es)
unfolding IsStrictlySortedBy
values-remove_entry k [] e ascending = refl
values-remove_entry k (f ∷ es) e ascending =
    let first : f.0 ≡ id_key f.1 = cc in
    let others : keys_of es ≡ map id_key (values_of es) = cc in
    let behind : Follow f.0 (values_of es) = subst (λ ks. AllByRecursion (λ m. key_order f.0 m ≡ Less) ks) others ascending.0 in
    removed-placed k (is_eq (key_order k f.0)) f es _ (λ here. removed_apart k (values_of es) (apart_behind k f.0 (values_of es) here behind)) (values-remove_entry k es others ascending.1)
    ∙ (λ i. cond (not (is_eq (key_order k (first i)))) (f.1 ∷ removed k (values_of es)) (removed k (values_of es)))

pub keys-remove_entry : (k : KeyTree) (es : Entries) → keys_of es ≡ map id_key (values_of es) → keys_of (remove_entry (is_at (key_order k)) es) ≡ map id_key (values_of (remove_entry (is_at (key_order k)) es))
keys-remove_entry k [] e = refl
keys-remove_entry k (f ∷ es) e = grind (arith, keys-remove_entry k es)

pub identified_removed : (k : KeyTree) (ds : List (List Field)) → AllByRecursion HasId ds → AllByRecursion HasId (removed k ds)
identified_removed k [] a = tt
identified_removed k (d ∷ ds) a = grind (arith, identified_removed k ds)

pub ruleset removals = (values-remove_entry, keys-remove_entry, identified_removed)

-- ---- the laws

module _ (l : KeyTree) where
  pub follow-kept : (b : Bool) (d : List Field) (ds : List (List Field)) → key_order l (id_key d) ≡ Less → Follow l ds → Follow l (cond b (d ∷ ds) ds)
  follow-kept true d ds before rest = (before, rest)
  follow-kept false d ds before rest = rest

  follow-removed : (k : KeyTree) (ds : List (List Field)) → Follow l ds → Follow l (removed k ds)
  follow-removed k [] h = tt
  follow-removed k (d ∷ ds) h = follow-kept (not (has_key k d)) d (removed k ds) h.0 (follow-removed k ds h.1)

pub ascending-kept : (b : Bool) (d : List Field) (ds : List (List Field)) → Follow (id_key d) ds → IsAscending ds → IsAscending (cond b (d ∷ ds) ds)
unfolding IsStrictlySortedBy
ascending-kept true d ds before rest = (before, rest)
ascending-kept false d ds before rest = rest

pub removed_ascending : (k : KeyTree) (ds : List (List Field)) → IsAscending ds → IsAscending (removed k ds)
unfolding IsStrictlySortedBy
removed_ascending k [] h = tt
removed_ascending k (d ∷ ds) h = ascending-kept (not (has_key k d)) d (removed k ds) (follow-removed (id_key d) k ds h.0) (removed_ascending k ds h.1)

-- equal keys are those of the same documents
same-test : (k l : KeyTree) (d : List Field) → is_eq (key_order k l) ≡ true → has_key k d ≡ has_key l d
same-test k l d here = ap is_eq (key_order_total.congr k l (id_key d) ((Equal-is _).0 here))

-- two keys of one document are equal
one-document : (k l : KeyTree) (d : List Field) → has_key k d ≡ true → has_key l d ≡ true → is_eq (key_order k l) ≡ true
one-document k l d p q = ap is_eq (alike_right key_order_total l (id_key d) k ((Equal-is _).0 q)) ∙ p

found-kept : (b p q : Bool) (d : List Field) (r s : Option (List Field)) → (p ≡ true → b ≡ q) → (b ≡ true → q ≡ true → p ≡ true) → r ≡ (if p then None else s)
    → cond (not b) (cond q (Some d) r) r ≡ (if p then None else cond q (Some d) s)
found-kept true true q d r s same one rest = rest
found-kept true false true d r s same one rest = cc (one refl refl)
found-kept true false false d r s same one rest = rest
found-kept false true true d r s same one rest = cc (same refl)
found-kept false true false d r s same one rest = rest
found-kept false false q d r s same one rest = ap (cond q (Some d)) rest

found-cond : (l : KeyTree) (b : Bool) (d : List Field) (ds : List (List Field)) → found l (cond b (d ∷ ds) ds) ≡ cond b (cond (has_key l d) (Some d) (found l ds)) (found l ds)
found-cond l true d ds = refl
found-cond l false d ds = refl

nothing : (p : Bool) (s : Option (List Field)) → s ≡ None → s ≡ (if p then None else s)
nothing true s e = e
nothing false s e = refl

pub found_removed : (k l : KeyTree) (ds : List (List Field)) → found l (removed k ds) ≡ (if is_eq (key_order k l) then None else found l ds)
found_removed k l [] = nothing (is_eq (key_order k l)) None refl
found_removed k l (d ∷ ds) =
    found-cond l (not (has_key k d)) d (removed k ds)
    ∙ found-kept (has_key k d) (is_eq (key_order k l)) (has_key l d) d _ (found l ds) (same-test k l d) (one-document k l d) (found_removed k l ds)
