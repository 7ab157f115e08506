-- What a replacement of a document leaves.
use Rattle.std.proofs.Common.{◌≡◌, Bool, true, false, List, [], ◌∷◌, map, Option, None, Some, is_some, cond, refl, ap, sym, subst, ◌∙◌, arith}
use Rattle.std.proofs.lemmas.Map.{keys-set_value}
use Rattle.std.specs.List.{AllByRecursion}
use Rattle.std.specs.List.Sorted.{IsStrictlySortedBy}
use Rattle.std.specs.Map.{keys_of, values_of, lookup, set_value}
use Rattle.std.specs.BTreeMap.{is_at}
use Rattle.std.specs.Option.{option_map}
use Rattle.std.specs.Ordering.{is_eq}
use Rattle.std.specs.Bool.{if◌then◌else◌}
use Rattle.std.specs.Cmp.{Equal-is, alike_right}
use Rattle.std.specs.declared.cmp.Ordering.TheVariants.{Less, Equal}
use Rattle.dv_value.specs.Tree.{Field}
use Rattle.dv_order.specs.Key.{KeyTree, key_order, key_at, first_value}
use Rattle.dv_order.specs.Inner.KeyLaws.{key_order_total, EqualKeysAreOne}
use Rattle.dv_coll.specs.Collection.{HasId, IsAscending, id_key, has_key, found, replaced}
use Rattle.dv_coll.specs.Inner.Keyed.{IsKeyed}
use Rattle.dv_coll.proofs.Places.{Entries, Follow, lookup-found}
use Rattle.dv_coll.proofs.Removed.{AreApart, apart_behind}

-- the key of a document's first value is that of its `_id`
pub first-id : (d : List Field) → HasId d → key_at (first_value d) ≡ id_key d
first-id [] h = absurd h
first-id (f ∷ fs) h = refl

module _ (d : List Field) where
  -- the entries with d in place of the one that has its key
  abbrev put : Entries → Entries
  put es = set_value (is_at (key_order (id_key d))) es d

  replaced_apart : (ds : List (List Field)) → AreApart (id_key d) ds → replaced d ds ≡ ds
  replaced_apart [] apart = refl
  replaced_apart (e ∷ ds) apart = grind (arith, replaced_apart ds)

  values-placed : (b : Bool) (f : KeyTree × List Field) (es fs : Entries) → (b ≡ true → replaced d (values_of es) ≡ values_of es) → values_of fs ≡ replaced d (values_of es)
      → values_of (cond b ((f.0, d) ∷ es) (f ∷ fs)) ≡ cond b d f.1 ∷ replaced d (values_of es)
  values-placed true f es fs only rest = ap (λ ds. d ∷ ds) (sym (only refl))
  values-placed false f es fs only rest = ap (λ ds. f.1 ∷ ds) rest

  values-put : (es : Entries) → keys_of es ≡ map id_key (values_of es) → IsStrictlySortedBy key_order (keys_of es) → values_of (put es) ≡ replaced d (values_of es)
  unfolding IsStrictlySortedBy
  values-put [] e ascending = refl
  values-put (f ∷ es) e ascending =
      let first : f.0 ≡ id_key f.1 = cc in
      let others : keys_of es ≡ map id_key (values_of es) = cc in
      let behind : Follow f.0 (values_of es) = subst (λ ks. AllByRecursion (λ m. key_order f.0 m ≡ Less) ks) others ascending.0 in
      values-placed (is_eq (key_order (id_key d) f.0)) f es _ (λ here. replaced_apart (values_of es) (apart_behind (id_key d) f.0 (values_of es) here behind)) (values-put es others ascending.1)
      ∙ (λ i. cond (is_eq (key_order (id_key d) (first i))) d f.1 ∷ replaced d (values_of es))

  -- a document with an equal `_id` has the same key
  keys-placed : (b : Bool) (f : KeyTree × List Field) (es fs : Entries) → f.0 ≡ id_key f.1 → keys_of es ≡ map id_key (values_of es) → (b ≡ true → id_key d ≡ f.0) → keys_of fs ≡ map id_key (values_of fs)
      → keys_of (cond b ((f.0, d) ∷ es) (f ∷ fs)) ≡ map id_key (values_of (cond b ((f.0, d) ∷ es) (f ∷ fs)))
  keys-placed true f es fs first others same rest = λ i. sym (same refl) i ∷ others i
  keys-placed false f es fs first others same rest = λ i. first i ∷ rest i

  same_id : EqualKeysAreOne → HasId d → (e : List Field) → HasId e → key_order (id_key d) (id_key e) ≡ Equal → id_key d ≡ id_key e
  same_id one h [] k equal = absurd k
  same_id one h (g ∷ gs) k equal =
      sym (first-id d h) ∙ one (first_value d) (Some g.1) (ap (λ l. key_order l (id_key (g ∷ gs))) (first-id d h) ∙ equal)

  keys-put : EqualKeysAreOne → HasId d → (es : Entries) → keys_of es ≡ map id_key (values_of es) → AllByRecursion HasId (values_of es) → keys_of (put es) ≡ map id_key (values_of (put es))
  keys-put one h [] e all = refl
  keys-put one h (f ∷ es) e all =
      let first : f.0 ≡ id_key f.1 = cc in
      let others : keys_of es ≡ map id_key (values_of es) = cc in
      keys-placed (is_eq (key_order (id_key d) f.0)) f es _ first others
      (λ here. same_id one h f.1 all.0 (ap (key_order (id_key d)) (sym first) ∙ (Equal-is _).0 here) ∙ sym first)
      (keys-put one h es others all.1)

-- the same under the key of the first value
pub values-set_value : (d : List Field) (es : Entries) → HasId d → keys_of es ≡ map id_key (values_of es) → IsStrictlySortedBy key_order (keys_of es)
    → values_of (set_value (is_at (key_order (key_at (first_value d)))) es d) ≡ replaced d (values_of es)
values-set_value [] es h e ascending = absurd h
values-set_value (f ∷ fs) es h e ascending = values-put (f ∷ fs) es e ascending

keys-set : EqualKeysAreOne → (d : List Field) (es : Entries) → HasId d → keys_of es ≡ map id_key (values_of es) → AllByRecursion HasId (values_of es)
    → keys_of (set_value (is_at (key_order (key_at (first_value d)))) es d) ≡ map id_key (values_of (set_value (is_at (key_order (key_at (first_value d)))) es d))
keys-set one [] es h e all = absurd h
keys-set one (f ∷ fs) es h e all = keys-put (f ∷ fs) one h es e all

pub lookup-first : (d : List Field) (es : Entries) → HasId d → keys_of es ≡ map id_key (values_of es) → is_some (lookup (is_at (key_order (key_at (first_value d)))) es) ≡ is_some (found (id_key d) (values_of es))
lookup-first [] es h e = absurd h
lookup-first (f ∷ fs) es h e = ap is_some (lookup-found (id_key (f ∷ fs)) es e)

pub identified_replaced : (d : List Field) (ds : List (List Field)) → HasId d → AllByRecursion HasId ds → AllByRecursion HasId (replaced d ds)
identified_replaced d [] h a = tt
identified_replaced d (e ∷ ds) h a = grind (arith, identified_replaced d ds)

pub IsKeyed-put : EqualKeysAreOne → (d : List Field) (es fs : Entries) → HasId d → IsKeyed es → fs ≡ set_value (is_at (key_order (key_at (first_value d)))) es d → IsKeyed fs
IsKeyed-put one d es fs h keyed e = rw e (record {
  keys = keys-set one d es h keyed.keys keyed.identified;
  ascending = rw keys-set_value keyed.ascending;
  identified = rw (values-set_value d es h keyed.keys keyed.ascending) (identified_replaced d (values_of es) h keyed.identified);
})

pub ruleset replacements = (values-set_value, lookup-first)

-- ---- the laws

-- a document is put in the place of one that has the same key
same-key : EqualKeysAreOne → (d e : List Field) → HasId d → HasId e → (b : Bool) → has_key (id_key d) e ≡ b → id_key (cond b d e) ≡ id_key e
same-key one d e h k true here = same_id d one h e k ((Equal-is _).0 here)
same-key one d e h k false away = refl

keys-replaced : EqualKeysAreOne → (d : List Field) (ds : List (List Field)) → HasId d → AllByRecursion HasId ds → map id_key (replaced d ds) ≡ map id_key ds
keys-replaced one d [] h all = refl
keys-replaced one d (e ∷ ds) h all = λ i. same-key one d e h all.0 (has_key (id_key d) e) refl i ∷ keys-replaced one d ds h all.1 i

pub replaced_ascending : EqualKeysAreOne → (d : List Field) (ds : List (List Field)) → HasId d → AllByRecursion HasId ds → IsAscending ds → IsAscending (replaced d ds)
replaced_ascending one d ds h all ascending = subst (IsStrictlySortedBy key_order) (sym (keys-replaced one d ds h all)) ascending

-- two documents with equal `_id`s have the same keys
same-test : (k : KeyTree) (d e : List Field) → has_key (id_key d) e ≡ true → has_key k d ≡ has_key k e
same-test k d e here = ap is_eq (alike_right key_order_total (id_key d) (id_key e) k ((Equal-is _).0 here))

-- a key that two documents have makes their `_id`s equal
one-key : (k : KeyTree) (d e : List Field) → has_key k d ≡ true → has_key k e ≡ true → has_key (id_key d) e ≡ true
one-key k d e p q = ap is_eq (sym (key_order_total.congr k (id_key d) (id_key e) ((Equal-is _).0 p))) ∙ q

found-placed : (b p q : Bool) (d e : List Field) (r s : Option (List Field)) → (b ≡ true → p ≡ q) → (p ≡ true → q ≡ true → b ≡ true) → r ≡ (if p then option_map (λ x. d) s else s)
    → cond (cond b p q) (Some (cond b d e)) r ≡ (if p then option_map (λ x. d) (cond q (Some e) s) else cond q (Some e) s)
found-placed true true true d e r s same one rest = refl
found-placed true true false d e r s same one rest = cc (same refl)
found-placed true false true d e r s same one rest = cc (same refl)
found-placed true false false d e r s same one rest = rest
found-placed false true true d e r s same one rest = cc (one refl refl)
found-placed false true false d e r s same one rest = rest
found-placed false false true d e r s same one rest = refl
found-placed false false false d e r s same one rest = rest

test-placed : (k : KeyTree) (b : Bool) (d e : List Field) → has_key k (cond b d e) ≡ cond b (has_key k d) (has_key k e)
test-placed k true d e = refl
test-placed k false d e = refl

pub found_replaced : (k : KeyTree) (d : List Field) (ds : List (List Field)) → found k (replaced d ds) ≡ (if has_key k d then option_map (λ e. d) (found k ds) else found k ds)
found_replaced k d [] = nothing (has_key k d)
  where
    nothing : (p : Bool) → None ≡ (if p then option_map (λ (e : List Field). d) None else None)
    nothing true = refl
    nothing false = refl
found_replaced k d (e ∷ ds) =
    let b = has_key (id_key d) e in
    ap (λ t. cond t (Some (cond b d e)) (found k (replaced d ds))) (test-placed k b d e)
    ∙ found-placed b (has_key k d) (has_key k e) d e _ (found k ds) (same-test k d e) (one-key k d e) (found_replaced k d ds)
