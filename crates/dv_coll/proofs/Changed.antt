-- A field changed in the document under a key.
use Rattle.std.proofs.Common.{◌≡◌, ℕ, Bool, true, false, List, [], ◌∷◌, ◌++◌, Option, None, Some, cond, codes, refl, ap, sym, subst, ◌∙◌, if◌then◌else◌, Result, Ok, Err, OnOk, OnErr}
use Rattle.std.proofs.lemmas.Map.Steps.{set_value_same}
use Rattle.std.specs.List.{AllByRecursion}
use Rattle.std.specs.Map.{values_of, lookup, set_value}
use Rattle.std.specs.BTreeMap.{is_at}
use Rattle.std.specs.Ordering.{is_eq}
use Rattle.std.specs.Str.{bytes_eq}
use Rattle.std.specs.Cmp.{Equal-is}
use Rattle.dv_value.specs.FieldChange.{with_found_pushed, with_field_changed}
use Rattle.dv_value.specs.Names.{has_name, value_under, with_value_under}
use Rattle.dv_value.specs.Tree.{Tree, array, Field, elements_of, list_of_elements}
use Rattle.dv_value.specs.View.{tree}
use Rattle.dv_value.specs.declared.field_change.FieldChange.{FieldChange}
use Rattle.dv_value.specs.declared.field_change.FieldChange.TheVariants.{Set, Push}
use Rattle.dv_order.specs.Key.{KeyTree, key_order, key_at, first_value}
use Rattle.dv_order.specs.Inner.KeyLaws.{key_order_total, EqualKeysAreOne}
use Rattle.dv_coll.specs.Collection.{HasId, id_key, has_key, found, replaced, with_field_changed_in}
use Rattle.dv_coll.specs.Inner.Keyed.{IsKeyed, changed_under}
use Rattle.dv_coll.proofs.Places.{Entries, lookup-found}
use Rattle.dv_coll.proofs.Replaced.{IsKeyed-put, first-id, values-set_value}

-- what is put back unchanged changes nothing
pub put_same : (k : KeyTree) (es : Entries) (d : List Field) → lookup (is_at (key_order k)) es ≡ Some d → set_value (is_at (key_order k)) es d ≡ es
put_same k es d here = set_value_same (is_at (key_order k)) es d here

-- what is found has the key, and is one of the documents
found-first : (b : Bool) (d e : List Field) (r : Option (List Field)) (P : List Field → Type 0) → cond b (Some e) r ≡ Some d → (b ≡ true → P e) → (r ≡ Some d → P d) → P d
found-first true d e r P is here behind = let same : e ≡ d = cc in subst P same (here refl)
found-first false d e r P is here behind = behind is

found-has : (k : KeyTree) (ds : List (List Field)) (d : List Field) → found k ds ≡ Some d → has_key k d ≡ true
found-has k [] d is = cc
found-has k (e ∷ ds) d is = found-first (has_key k e) d e (found k ds) (λ f. has_key k f ≡ true) is (λ here. here) (found-has k ds d)

found-id : (k : KeyTree) (ds : List (List Field)) (d : List Field) → AllByRecursion HasId ds → found k ds ≡ Some d → HasId d
found-id k [] d all is = absurd cc
found-id k (e ∷ ds) d all is = found-first (has_key k e) d e (found k ds) HasId is (λ here. all.0) (found-id k ds d all.1)

-- the first field stays where it is
abbrev Begins : Field → List Field → Type 0
Begins f d = (fs : List Field) × (d ≡ f ∷ fs)

HasId-begins : (f : Field) (fs d : List Field) → HasId (f ∷ fs) → Begins f d → HasId d
HasId-begins f fs d h begins = subst HasId (sym begins.1) h

module _ (name : List ℕ) (other : bytes_eq name (codes "_id") ≡ false) (f : Field) (fs : List Field) (h : HasId (f ∷ fs)) where
  put-begins : (v : Tree) → Begins f (with_value_under name v (f ∷ fs))
  put-begins v = (with_value_under name v fs, ap (λ b. if b then (f.0, v) ∷ fs else f ∷ with_value_under name v fs) (ap (bytes_eq name) h.0 ∙ other))

  set-begins : (v : Tree) (b : Bool) → Begins f (if b then with_value_under name v (f ∷ fs) else (f ∷ fs) ++ (name, v) ∷ [])
  set-begins v true = put-begins v
  set-begins v false = (fs ++ (name, v) ∷ [], refl)

  pushed-begins : (v : Tree) (found : Option Tree) → Begins f (with_found_pushed found name v (f ∷ fs))
  pushed-begins v (Some (array vs)) = put-begins (array (elements_of (list_of_elements vs ++ v ∷ [])))
  pushed-begins v found = (fs, refl)

  changed-begins : (c : FieldChange) → Begins f (with_field_changed name c (f ∷ fs))
  changed-begins (Set v) = set-begins (tree v) (has_name name (f ∷ fs))
  changed-begins (Push v) = pushed-begins (tree v) (value_under name (f ∷ fs))

module _ (name : List ℕ) (c : FieldChange) (other : bytes_eq name (codes "_id") ≡ false) where
  -- the `_id` stays
  HasId-kept : (d : List Field) → HasId d → HasId (with_field_changed name c d)
  HasId-kept [] h = absurd h
  HasId-kept (f ∷ fs) h = HasId-begins f fs _ h (changed-begins name other f fs h c)

  id_key-kept : (d : List Field) → HasId d → id_key (with_field_changed name c d) ≡ id_key d
  id_key-kept [] h = absurd h
  id_key-kept (f ∷ fs) h = ap id_key (changed-begins name other f fs h c).1

  module _ (k : KeyTree) (es : Entries) (keyed : IsKeyed es) (d : List Field) (here : lookup (is_at (key_order k)) es ≡ Some d) where
    is-found : found k (values_of es) ≡ Some d
    is-found = sym (lookup-found k es keyed.keys) ∙ here

    has-id : HasId d
    has-id = found-id k (values_of es) d keyed.identified is-found

    first-key : key_at (first_value (with_field_changed name c d)) ≡ id_key d
    first-key = first-id (with_field_changed name c d) (HasId-kept d has-id) ∙ id_key-kept d has-id

    -- the document's own key finds the same place
    same-test : (l : KeyTree) → is_at (key_order k) l ≡ is_at (key_order (key_at (first_value (with_field_changed name c d)))) l
    same-test l = ap is_eq (key_order_total.congr k (id_key d) l ((Equal-is _).0 (found-has k (values_of es) d is-found)) ∙ ap (λ m. key_order m l) (sym first-key))

    pub same-place : set_value (is_at (key_order k)) es (with_field_changed name c d) ≡ set_value (is_at (key_order (key_at (first_value (with_field_changed name c d))))) es (with_field_changed name c d)
    same-place = ap (λ t. set_value t es (with_field_changed name c d)) (λ i l. same-test l i)

    pub keyed-after : EqualKeysAreOne → IsKeyed (set_value (is_at (key_order k)) es (with_field_changed name c d))
    keyed-after one = IsKeyed-put one (with_field_changed name c d) es _ (HasId-kept d has-id) keyed same-place

    pub values-after : values_of (set_value (is_at (key_order k)) es (with_field_changed name c d)) ≡ replaced (with_field_changed name c d) (values_of es)
    values-after = ap values_of same-place ∙ values-set_value (with_field_changed name c d) es (HasId-kept d has-id) keyed.keys keyed.ascending

  -- whatever was found
  keyed-by : EqualKeysAreOne → (k : KeyTree) (es : Entries) → IsKeyed es → (o : Option (List Field)) → lookup (is_at (key_order k)) es ≡ o → IsKeyed (changed_under o k name c es)
  keyed-by one k es keyed None here = keyed
  keyed-by one k es keyed (Some d) here = keyed-after k es keyed d here one

  values-by : (k : KeyTree) (es : Entries) → IsKeyed es → (o : Option (List Field)) → lookup (is_at (key_order k)) es ≡ o → values_of (changed_under o k name c es) ≡ with_field_changed_in o name c (values_of es)
  values-by k es keyed None here = refl
  values-by k es keyed (Some d) here = values-after k es keyed d here

  keyed-put : EqualKeysAreOne → (k : KeyTree) (es fs : Entries) → IsKeyed es → fs ≡ changed_under (lookup (is_at (key_order k)) es) k name c es → IsKeyed fs
  keyed-put one k es fs keyed is = subst IsKeyed (sym is) (keyed-by one k es keyed (lookup (is_at (key_order k)) es) refl)

  -- the same if memory may run out
  pub keyed-either : {X E : Type 0} → EqualKeysAreOne → (k : KeyTree) (es fs : Entries) → IsKeyed es → (r : Result X E) → OnOk r (fs ≡ changed_under (lookup (is_at (key_order k)) es) k name c es) → OnErr r (fs ≡ es) → IsKeyed fs
  keyed-either one k es fs keyed (Ok x) ok err = keyed-put one k es fs keyed ok
  keyed-either one k es fs keyed (Err e) ok err = subst IsKeyed (sym err) keyed

  pub values-changed_under : (k : KeyTree) (es fs : Entries) → IsKeyed es → fs ≡ changed_under (lookup (is_at (key_order k)) es) k name c es → values_of fs ≡ with_field_changed_in (found k (values_of es)) name c (values_of es)
  values-changed_under k es fs keyed is =
      ap values_of is ∙ values-by k es keyed (lookup (is_at (key_order k)) es) refl ∙ ap (λ o. with_field_changed_in o name c (values_of es)) (lookup-found k es keyed.keys)

pub HasId_kept : (name : List ℕ) (c : FieldChange) (d : List Field) → bytes_eq name (codes "_id") ≡ false → HasId d → HasId (with_field_changed name c d)
HasId_kept name c d other h = HasId-kept name c other d h

pub id_key_kept : (name : List ℕ) (c : FieldChange) (d : List Field) → bytes_eq name (codes "_id") ≡ false → HasId d → id_key (with_field_changed name c d) ≡ id_key d
id_key_kept name c d other h = id_key-kept name c other d h

pub ruleset id_kept = (HasId_kept, id_key_kept)

pub found_has : (k : KeyTree) (d : List Field) (ds : List (List Field)) → found k ds ≡ Some d → has_key k d ≡ true
found_has k d ds is = found-has k ds d is

pub found_id : (k : KeyTree) (d : List Field) (ds : List (List Field)) → AllByRecursion HasId ds → found k ds ≡ Some d → HasId d
found_id k d ds all is = found-id k ds d all is

pub ruleset found_with_key = (found_has, found_id)

pub ruleset changed = (lookup-found, values-changed_under)
