-- No key of a unique index is in two documents of its collection.
use Rattle.std.proofs.Common.{◌≡◌, ◌||◌, not, ℕ, Bool, true, false, cond, if◌then◌else◌, List, [], ◌∷◌, ◌++◌, map, drop, length, nat_lt, Option, Some, None, Result, Ok, Err, is_some, refl, sym, ap, subst, ◌∙◌, append_assoc}
use Rattle.std.proofs.lemmas.List.{append-nil}
use Rattle.std.specs.List.{filter, list_any}
use Rattle.std.specs.Prelude.{IsSome, codes}
use Rattle.std.specs.Str.{bytes_eq}
use Rattle.std.proofs.lemmas.Bool.{or_from}
use Rattle.dv_value.specs.Tree.{Field}
use Rattle.dv_order.specs.Key.{KeyTree}
use Rattle.dv_coll.specs.Collection.{IsAscending, found, id_key, inserted, removed, replaced}
use Rattle.dv_catalog.specs.Changes.{Change, put, gone, clashes_by, with_change}
use Rattle.dv_catalog.specs.IndexMaking.{index_limit, is_alike, is_made, unless_broken, with_all, with_entries, with_index, within_limit, without_named}
use Rattle.dv_catalog.specs.State.{AreOrdered, Collection}
use Rattle.dv_command.specs.Asked.{Asked, create_indexes, drop_indexes}
use Rattle.dv_core.specs.Indexes.{form_asked}
use Rattle.dv_core.proofs.Standing.{indexes_by}
use Rattle.dv_value.specs.Results.{◌>>=◌}
use Rattle.dv_refusal.specs.declared.refusal.Refusal.{Refusal}
use Rattle.dv_refusal.specs.declared.refusal.Refusal.TheVariants.{BadValue, ConflictingUpdateOperators, DuplicateKey, IndexNotFound, LimitReached}
use Rattle.dv_keyed.specs.Index.{IndexForm, id_form}
use Rattle.dv_index.specs.Indexed.{is_dropped, without_index}
use Rattle.dv_index.specs.Unique.{are_broken, clashes}

-- what leaves unique indexes unbroken, by the laws of indexes
pub record UniqueLaws : Type 0 where
  pub inserted_apart : (indexes : List IndexForm) (d : List Field) (ds : List (List Field)) → IsAscending ds → found (id_key d) ds ≡ None → are_broken indexes ds ≡ false → clashes indexes d ds ≡ false → are_broken indexes (inserted d ds) ≡ false
  pub replaced_apart : (indexes : List IndexForm) (d : List Field) (ds : List (List Field)) → IsAscending ds → IsSome (found (id_key d) ds) → are_broken indexes ds ≡ false → clashes indexes d ds ≡ false → are_broken indexes (replaced d ds) ≡ false
  pub removed_apart : (indexes : List IndexForm) (k : KeyTree) (ds : List (List Field)) → are_broken indexes ds ≡ false → are_broken indexes (removed k ds) ≡ false
  pub none_apart : (indexes : List IndexForm) → are_broken indexes [] ≡ false
  pub fewer_apart : (p : IndexForm → Bool) (indexes : List IndexForm) (ds : List (List Field)) → are_broken indexes ds ≡ false → are_broken (filter p indexes) ds ≡ false
  pub one_by_one : (indexes more : List IndexForm) (ds : List (List Field)) → are_broken (indexes ++ more) ds ≡ (are_broken indexes ds || are_broken more ds)

-- ---- changes

module _ (laws : UniqueLaws) where
  put_unbroken : (indexes : List IndexForm) (d : List Field) (ds : List (List Field)) (there : Option (List Field)) → found (id_key d) ds ≡ there → IsAscending ds → are_broken indexes ds ≡ false → clashes indexes d ds ≡ false
      → are_broken indexes (cond (is_some there) (replaced d ds) (inserted d ds)) ≡ false
  put_unbroken indexes d ds None is ascend unbroken apart = laws.inserted_apart indexes d ds ascend is unbroken apart
  put_unbroken indexes d ds (Some e) is ascend unbroken apart = laws.replaced_apart indexes d ds ascend (ap is_some is) unbroken apart

  pub change_unbroken : (indexes : List IndexForm) (change : Change) (ds : List (List Field)) → AreOrdered ds → are_broken indexes ds ≡ false → clashes_by indexes change ds ≡ false → are_broken indexes (with_change ds change) ≡ false
  change_unbroken indexes (put d) ds ordered unbroken apart = put_unbroken indexes d ds (found (id_key d) ds) refl ordered.0 unbroken apart
  change_unbroken indexes (gone k) ds ordered unbroken apart = laws.removed_apart indexes k ds unbroken

-- ---- indexes that are made and dropped

-- the new indexes come after the others
abbrev ComesBehind : List IndexForm → List IndexForm → Type 0
ComesBehind indexes made = (more : List IndexForm) × (made ≡ indexes ++ more)

index_behind : (x : IndexForm) (indexes made : List IndexForm) → with_index x indexes ≡ Ok made → ComesBehind indexes made
index_behind x indexes made is = by_tests (is_made x indexes) (list_any (is_alike x) indexes) is
  where
    by_tests : (a b : Bool) → (if a then Ok indexes else if b then Err ConflictingUpdateOperators else Ok (indexes ++ x ∷ [])) ≡ Ok made → ComesBehind indexes made
    by_tests true b e = let same : indexes ≡ made = cc in ([], sym same ∙ sym (append-nil indexes))
    by_tests false true e = absurd cc
    by_tests false false e = let same : indexes ++ x ∷ [] ≡ made = cc in (x ∷ [], sym same)

then_behind : (indexes made : List IndexForm) (first : Result (List IndexForm) Refusal) (more : List IndexForm → Result (List IndexForm) Refusal) → ((between : List IndexForm) → first ≡ Ok between → ComesBehind indexes between)
    → ((between : List IndexForm) → more between ≡ Ok made → ComesBehind between made) → (first >>= more) ≡ Ok made → ComesBehind indexes made
then_behind indexes made (Ok between) more before later is =
    let (one, is_one) = before between refl in
    let (others, is_others) = later between is in
    (one ++ others, is_others ∙ ap (λ (front : List IndexForm). front ++ others) is_one ∙ append_assoc indexes one others)
then_behind indexes made (Err refusal) more before later is = absurd cc

entries_behind : (entries indexes made : List IndexForm) → with_entries entries indexes ≡ Ok made → ComesBehind indexes made
entries_behind [] indexes made is = let same : indexes ≡ made = cc in ([], sym same ∙ sym (append-nil indexes))
entries_behind (x ∷ entries) indexes made is =
    then_behind indexes made (with_index x indexes) (with_entries entries) (λ between. index_behind x indexes between) (λ between. entries_behind entries between made) is

drop_front : (indexes more : List IndexForm) → drop (length indexes) (indexes ++ more) ≡ more
drop_front [] [] = refl
drop_front [] (x ∷ more) = refl
drop_front (x ∷ indexes) more = drop_front indexes more

module _ (laws : UniqueLaws) (c : Collection) where
  abbrev IsUnbroken : List IndexForm → Type 0
  IsUnbroken indexes = are_broken indexes c.documents ≡ false

  whole_made : (made : List IndexForm) → ComesBehind c.indexes made → IsUnbroken (drop (length c.indexes) made) → IsUnbroken c.indexes → IsUnbroken made
  whole_made made (more, is) others unbroken =
      let come : drop (length c.indexes) made ≡ more = ap (drop (length c.indexes)) is ∙ drop_front c.indexes more in
      ap (λ (all : List IndexForm). are_broken all c.documents) is
      ∙ laws.one_by_one c.indexes more c.documents
      ∙ or_from (are_broken c.indexes c.documents) (are_broken more c.documents) unbroken (subst IsUnbroken come others)

  all_unbroken : (entries made : List IndexForm) → with_all entries c ≡ Ok made → IsUnbroken c.indexes → IsUnbroken made
  all_unbroken entries made is unbroken = by_entries (with_entries entries c.indexes) refl is
    where
      by_test : (most : List IndexForm) (b : Bool) → with_entries entries c.indexes ≡ Ok most → are_broken (drop (length c.indexes) most) c.documents ≡ b → (if b then Err DuplicateKey else Ok most) ≡ Ok made → IsUnbroken made
      by_test most true so test e = absurd cc
      by_test most false so test e =
          let same : most ≡ made = cc in
          subst IsUnbroken same (whole_made most (entries_behind entries c.indexes most so) test unbroken)

      by_limit : (most : List IndexForm) (a : Bool) → with_entries entries c.indexes ≡ Ok most → ((if a then Err LimitReached else Ok most) >>= unless_broken c) ≡ Ok made → IsUnbroken made
      by_limit most true so e = absurd cc
      by_limit most false so e = by_test most (are_broken (drop (length c.indexes) most) c.documents) so refl e

      by_entries : (most : Result (List IndexForm) Refusal) → with_entries entries c.indexes ≡ most → (most >>= within_limit >>= unless_broken c) ≡ Ok made → IsUnbroken made
      by_entries (Ok most) so e = by_limit most (nat_lt index_limit (length most)) so e
      by_entries (Err refusal) so e = absurd cc

  left_unbroken : (name : List ℕ) (left : List IndexForm) → without_named name c.indexes ≡ Ok left → IsUnbroken c.indexes → IsUnbroken left
  left_unbroken name left is unbroken = by_tests (bytes_eq name (codes "*")) (bytes_eq name id_form.name) (list_any (is_dropped name) c.indexes) is
    where
      by_tests : (star id there : Bool) → (if star then Ok (id_form ∷ []) else if id then Err BadValue else if there then Ok (without_index name c.indexes) else Err IndexNotFound) ≡ Ok left → IsUnbroken left
      by_tests true id there e = let same : id_form ∷ [] ≡ left = cc in subst IsUnbroken same refl
      by_tests false true there e = absurd cc
      by_tests false false true e = let same : without_index name c.indexes ≡ left = cc in subst IsUnbroken same (laws.fewer_apart (λ x. not (is_dropped name x)) c.indexes c.documents unbroken)
      by_tests false false false e = absurd cc

  -- the indexes that a command leaves a collection with
  pub indexes_unbroken : (what : Asked) (indexes : List IndexForm) → indexes_by what c ≡ Ok indexes → are_broken c.indexes c.documents ≡ false → are_broken indexes c.documents ≡ false
  indexes_unbroken (create_indexes asked) indexes is unbroken = all_unbroken (map form_asked asked.indexes) indexes is unbroken
  indexes_unbroken (drop_indexes asked) indexes is unbroken = left_unbroken asked.index indexes is unbroken
  indexes_unbroken what indexes is unbroken = let same : c.indexes ≡ indexes = cc in subst IsUnbroken same unbroken
