-- A field that no index's path leads through is changed in a document: its keys stay as they are.
use Rattle.std.proofs.Common.{◌≡◌, ◌∙◌, ℕ, List, [], ◌∷◌, ◌++◌, map, refl, ap, sym, subst, Bool, true, false, cond, if◌then◌else◌, Option, Some, None, Result, Ok, Err, OnOk, OnErr, codes}
use Rattle.std.specs.List.{AllByRecursion, flat_map, list_any}
use Rattle.std.specs.Option.{option_map}
use Rattle.std.specs.Ordering.{is_eq}
use Rattle.std.specs.Str.{bytes_eq}
use Rattle.std.proofs.lemmas.Bool.{or_parts}
use Rattle.std.proofs.lemmas.Slice.Eq.{bytes_eq-Decides}
use Rattle.dv_value.specs.FieldChange.{with_found_pushed, with_field_changed}
use Rattle.dv_value.specs.Names.{has_name, value_under, with_value_under}
use Rattle.dv_value.specs.Tree.{Tree, array, Field, elements_of, list_of_elements}
use Rattle.dv_value.specs.View.{tree}
use Rattle.dv_value.specs.declared.field_change.FieldChange.{FieldChange}
use Rattle.dv_value.specs.declared.field_change.FieldChange.TheVariants.{Set, Push}
use Rattle.dv_value.specs.Inner.ListLaws.{any-map}
use Rattle.dv_value.specs.Inner.TreeLaws.{fields_again}
use Rattle.dv_order.specs.Key.{KeyTree, key_order}
use Rattle.dv_candidates.specs.Candidates.{candidates, leaves, or_null, whole, with_elements}
use Rattle.dv_path.specs.LeafKeys.{is_leaf_key, is_some_key, leaf_values}
use Rattle.dv_coll.specs.Collection.{HasId, found, has_key as is_of, id_key, replaced, with_field_changed_in}
use Rattle.dv_index.specs.Inner.Change.{AreIndexesOf}
use Rattle.dv_keyed.specs.Index.{IndexForm}
use Rattle.dv_keyed.specs.Inner.Index.{IndexTree, form_of}
use Rattle.dv_index.specs.Inner.Search.{IsIndexOf, is_key_under}
use Rattle.dv_index.specs.Inner.Through.{leads_through, any_leads_through}
use Rattle.dv_index.proofs.Changed.{ReplacedIsFound, found-same}
use Rattle.dv_index.proofs.FieldChanged.{LeavesKey, FoundHas, FoundBegins}

-- ---- the value under another name
module _ (other name : List ℕ) (apart : bytes_eq other name ≡ false) where
  put-apart : (v : Tree) (fs : List Field) → value_under other (with_value_under name v fs) ≡ value_under other fs
  put-apart v [] = refl
  put-apart v (f ∷ fs) = by (bytes_eq name f.0) refl (put-apart v fs)
    where
      by : (b : Bool) → bytes_eq name f.0 ≡ b → value_under other (with_value_under name v fs) ≡ value_under other fs → value_under other (if b then (f.0, v) ∷ fs else f ∷ with_value_under name v fs) ≡ value_under other (f ∷ fs)
      by true here rest =
          let elsewhere : bytes_eq other f.0 ≡ false = ap (bytes_eq other) (sym ((bytes_eq-Decides name f.0).0 here)) ∙ apart in
          ap (λ b. if b then Some v else value_under other fs) elsewhere ∙ sym (ap (λ b. if b then Some f.1 else value_under other fs) elsewhere)
      by false here rest = ap (λ o. if bytes_eq other f.0 then Some f.1 else o) rest

  behind-apart : (v : Tree) (fs : List Field) → value_under other (fs ++ (name, v) ∷ []) ≡ value_under other fs
  behind-apart v [] = ap (λ b. if b then Some v else None) apart
  behind-apart v (f ∷ fs) = ap (λ o. if bytes_eq other f.0 then Some f.1 else o) (behind-apart v fs)

  set-apart : (v : Tree) (b : Bool) (fs : List Field) → value_under other (if b then with_value_under name v fs else fs ++ (name, v) ∷ []) ≡ value_under other fs
  set-apart v true fs = put-apart v fs
  set-apart v false fs = behind-apart v fs

  pushed-apart : (v : Tree) (there : Option Tree) (fs : List Field) → value_under other (with_found_pushed there name v fs) ≡ value_under other fs
  pushed-apart v (Some (array vs)) fs = put-apart (array (elements_of (list_of_elements vs ++ v ∷ []))) fs
  pushed-apart v there fs = refl

  value-apart : (c : FieldChange) (fs : List Field) → value_under other (with_field_changed name c fs) ≡ value_under other fs
  value-apart (Set v) fs = set-apart (tree v) (has_name name fs) fs
  value-apart (Push v) fs = pushed-apart (tree v) (value_under name fs) fs

-- ---- the keys under a path
whole-apart : (name : List ℕ) (path : List (List ℕ)) → leads_through name path ≡ false → (c : FieldChange) (d : List Field) → whole (with_field_changed name c d) path ≡ whole d path
unfolding whole
whole-apart name [] apart c d = absurd cc
whole-apart name (first ∷ names) apart c d =
    ap (λ o. flat_map (candidates names) (o ∷ []))
    (ap (value_under first) (fields_again (with_field_changed name c d)) ∙ value-apart first name apart c d ∙ ap (value_under first) (sym (fields_again d)))

key-apart : (name : List ℕ) (path : List (List ℕ)) → leads_through name path ≡ false → (c : FieldChange) (d : List Field) (k : KeyTree) → is_leaf_key k path (with_field_changed name c d) ≡ is_leaf_key k path d
unfolding is_leaf_key leaf_values leaves
key-apart name path apart c d k = ap (λ cs. is_some_key k (map or_null (flat_map with_elements cs))) (whole-apart name path apart c d)

-- ---- the indexes
-- the first one, on `_id`, doesn't count
pub any-behind : (name : List ℕ) (first : IndexTree) (rest xs : List IndexTree) → xs ≡ first ∷ rest → list_any (λ x. leads_through name (form_of x).path) rest ≡ any_leads_through name (map form_of xs)
any-behind name first rest xs parts = sym (any-map (λ (x : IndexForm). leads_through name x.path) form_of rest) ∙ ap (λ (ys : List IndexTree). any_leads_through name (map form_of ys)) (sym parts)

module _ (law : ReplacedIsFound) (key : LeavesKey) (has : FoundHas) (begins : FoundBegins) (name : List ℕ) (c : FieldChange) (no_id : bytes_eq name (codes "_id") ≡ false) (k : KeyTree) (ds : List (List Field)) (all : AllByRecursion HasId ds) where
  module _ (d : List Field) (here : found k ds ≡ Some d) where
    same-id : id_key (with_field_changed name c d) ≡ id_key d
    same-id = key name c d no_id (begins k d ds all here)

    -- if a key finds the changed document, it found the other one before
    found-there : (i : KeyTree) → is_of i (with_field_changed name c d) ≡ true → found i ds ≡ Some d
    found-there i there = found-same i (id_key d) ds (ap (λ l. is_eq (key_order i l)) (sym same-id) ∙ there) ∙ sym (found-same k (id_key d) ds (has k d ds here)) ∙ here

    keys-kept : (path : List (List ℕ)) → leads_through name path ≡ false → (l i : KeyTree) → is_key_under l path (found i ds) ≡ is_key_under l path (found i (replaced (with_field_changed name c d) ds))
    keys-kept path apart l i = at (is_of i (with_field_changed name c d)) refl ∙ ap (is_key_under l path) (sym (law i (with_field_changed name c d) ds))
      where
        at : (b : Bool) → is_of i (with_field_changed name c d) ≡ b → is_key_under l path (found i ds) ≡ is_key_under l path (cond b (option_map (λ e. with_field_changed name c d) (found i ds)) (found i ds))
        at true there =
            ap (is_key_under l path) (found-there i there) ∙ sym (key-apart name path apart c d l)
            ∙ ap (λ o. is_key_under l path (option_map (λ (e : List Field). with_field_changed name c d) o)) (sym (found-there i there))
        at false away = refl

    all-kept : (xs : List IndexTree) → list_any (λ x. leads_through name x.path) (map form_of xs) ≡ false → AllByRecursion (λ x. IsIndexOf x ds) xs → AllByRecursion (λ x. IsIndexOf x (replaced (with_field_changed name c d) ds)) xs
    all-kept [] none held = tt
    all-kept (x ∷ xs) none held =
        let apart = or_parts (leads_through name x.path) (list_any (λ y. leads_through name y.path) (map form_of xs)) none in
        (record { has = λ l i. held.0.has l i ∙ keys-kept x.path apart.0 l i }, all-kept xs apart.1 held.1)

  kept-by : (xs : List IndexTree) → any_leads_through name (map form_of xs) ≡ false → AreIndexesOf xs ds → (o : Option (List Field)) → found k ds ≡ o → AreIndexesOf xs (with_field_changed_in o name c ds)
  kept-by [] none held o here = tt
  kept-by (x ∷ xs) none held None here = held
  kept-by (x ∷ xs) none held (Some d) here = all-kept d here xs none held

  -- if memory may run out
  pub kept_in_place : {X E : Type 0} (xs : List IndexTree) → any_leads_through name (map form_of xs) ≡ false → AreIndexesOf xs ds → (news : List (List Field)) (r : Result X E) → OnOk r (news ≡ with_field_changed_in (found k ds) name c ds) → OnErr r (news ≡ ds) → AreIndexesOf xs news
  kept_in_place xs none held news (Ok x) ok err = subst (AreIndexesOf xs) (sym ok) (kept-by xs none held (found k ds) refl)
  kept_in_place xs none held news (Err e) ok err = subst (AreIndexesOf xs) (sym err) held
