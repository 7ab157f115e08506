-- A document with one field changed replaces the one that was found.
use Rattle.std.proofs.Common.{◌≡◌, ◌∙◌, ℕ, List, [], ◌∷◌, length, arith, Some, IsSome, false, true, codes, ap, sym, subst}
use Rattle.std.specs.List.{AllByRecursion}
use Rattle.std.specs.Str.{bytes_eq}
use Rattle.dv_value.specs.FieldChange.{with_field_changed}
use Rattle.dv_value.specs.Tree.{Field}
use Rattle.dv_value.specs.declared.field_change.FieldChange.{FieldChange}
use Rattle.dv_order.specs.Key.{KeyTree}
use Rattle.dv_coll.specs.Collection.{HasId, found, has_key, id_key}
use Rattle.dv_index.specs.Inner.Change.{AreIndexesOf}
use Rattle.dv_keyed.specs.Inner.Index.{IndexTree}
use Rattle.dv_index.proofs.Changed.{found-same}

module _ (k : KeyTree) (d e : List Field) (ds : List (List Field)) (here : found k ds ≡ Some d) where
  -- it is there under the changed document's own key too
  still_found : has_key k d ≡ true → id_key e ≡ id_key d → IsSome (found (id_key e) ds)
  still_found has same = subst IsSome (sym (ap (λ l. found l ds) same ∙ sym (found-same k (id_key d) ds has) ∙ here)) Prim.search

-- what dv_coll's laws say
abbrev pub LeavesBegin : Type 0
LeavesBegin = (name : List ℕ) (c : FieldChange) (d : List Field) → bytes_eq name (codes "_id") ≡ false → HasId d → HasId (with_field_changed name c d)

abbrev pub LeavesKey : Type 0
LeavesKey = (name : List ℕ) (c : FieldChange) (d : List Field) → bytes_eq name (codes "_id") ≡ false → HasId d → id_key (with_field_changed name c d) ≡ id_key d

abbrev pub FoundHas : Type 0
FoundHas = (k : KeyTree) (d : List Field) (ds : List (List Field)) → found k ds ≡ Some d → has_key k d ≡ true

abbrev pub FoundBegins : Type 0
FoundBegins = (k : KeyTree) (d : List Field) (ds : List (List Field)) → AllByRecursion HasId ds → found k ds ≡ Some d → HasId d

-- the changed document may replace the one that was found
pub change_possible : LeavesBegin → LeavesKey → FoundHas → FoundBegins → (k : KeyTree) (name : List ℕ) (c : FieldChange) (d e : List Field) (ds : List (List Field)) → bytes_eq name (codes "_id") ≡ false → AllByRecursion HasId ds
    → Some d ≡ found k ds → e ≡ with_field_changed name c d → HasId e × IsSome (found (id_key e) ds)
change_possible begin key has found-begins k name c d e ds other all here is =
    let id : HasId d = found-begins k d ds all (sym here) in
    let same : id_key e ≡ id_key d = ap id_key is ∙ key name c d other id in
    (subst HasId (sym is) (begin name c d other id), still_found k d e ds (sym here) (has k d ds (sym here)) same)

-- if there is no index after the first, whatever documents there are
pub one_index : (xs : List IndexTree) → length xs ≡ 1 → (ds : List (List Field)) → AreIndexesOf xs ds
one_index [] one ds = tt
one_index (x ∷ []) one ds = tt
one_index (x ∷ y ∷ xs) one ds = absurd (omega (arith, one))
