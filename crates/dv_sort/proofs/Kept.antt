-- What rows in memory stand for.
use Rattle.std.proofs.Common.{◌≡◌, ◌∙◌, ap, ap₂, sym, refl, ℕ, zero, suc, List, [], ◌∷◌, ◌++◌, take, Option, Some, None, arith}
use Rattle.std.specs.List.Sorted.{IsSortedBy, IsStableBy}
use Rattle.std.specs.Ordering.{is_lt}
use Rattle.std.proofs.lemmas.List.{take-map, take-take, map-append}
use Rattle.std.proofs.lemmas.List.Elements.{recursion_from_All}
use Rattle.dv_value.specs.Tree.{Field}
use Rattle.dv_path.specs.SortSpec.{Part}
use Rattle.dv_sort.specs.declared.row.Row.{Row}
use Rattle.dv_sort.specs.Sorting.{stands_before, stable, front}
use Rattle.dv_sort.specs.Front.{no_rows, with_row, front_of}
use Rattle.dv_sort.specs.Keys.{documents}
use Rattle.dv_sort.specs.Inner.Keys.{keys_order, keys_before, HasKeysOf, AreKeyed}
use Rattle.dv_sort.proofs.Insertion.{only-order, map-ordered, ordered-push, ordered-up, up-ordered, up-take, front-placed}
use Rattle.dv_sort.proofs.Standing.{before-is, before-ranks, ranks-by-keys}

keyed-before : (parts : List Part) (x y : Row) → HasKeysOf parts x → HasKeysOf parts y → keys_before parts x y ≡ stands_before parts x.document y.document
keyed-before parts x y p q = ap₂ (λ ks ls. is_lt (keys_order parts ks ls)) p.keys q.keys ∙ sym (before-is parts x.document y.document)

-- rows that were sorted by their keys
pub sorted-documents : (parts : List Part) (xs ys : List Row) → AreKeyed parts xs → IsSortedBy (keys_before parts) ys → IsStableBy (keys_before parts) xs ys → documents ys ≡ stable parts (documents xs)
unfolding stable
sorted-documents parts xs ys keyed s t =
    ap documents (only-order (keys_before parts) (ranks-by-keys parts (λ (row : Row). row.keys.items)) xs ys s t)
    ∙ map-ordered (keys_before parts) (stands_before parts) (λ row. row.document) (HasKeysOf parts) (keyed-before parts) xs (recursion_from_All (HasKeysOf parts) xs keyed)

pub front-sorted : (parts : List Part) (most : ℕ) (xs ys : List Row) → documents ys ≡ stable parts (documents xs) → documents (take most ys) ≡ front (Some most) (stable parts (documents xs))
front-sorted parts most xs ys e = sym (take-map (λ (row : Row). row.document) most ys) ∙ ap (take most) e

sorted-front : (parts : List Part) (most : ℕ) (ds : List (List Field)) → stable parts (take most (stable parts ds)) ≡ take most (stable parts ds)
unfolding stable
sorted-front parts most ds =
    let lt = stands_before parts in
    ordered-up lt (before-ranks parts) (take most (stable parts ds)) (up-take lt (before-ranks parts) most (stable parts ds) (up-ordered lt (before-ranks parts) ds))

-- the first ones of sorted rows have the same prefix as all rows
pub front-kept : (parts : List Part) (most : ℕ) (xs ys : List Row) → documents ys ≡ stable parts (documents xs) → take most (stable parts (documents (take most ys))) ≡ take most (stable parts (documents xs))
front-kept parts most xs ys e =
    ap (λ l. take most (stable parts l)) (front-sorted parts most xs ys e)
    ∙ ap (take most) (sorted-front parts most (documents xs))
    ∙ take-take most most (stable parts (documents xs)) (omega arith)

pub row-more : (parts : List Part) (most : Option ℕ) (ds : List (List Field)) (d : List Field) → with_row (front_of parts most ds) d ≡ front_of parts most (ds ++ d ∷ [])
unfolding stable
row-more parts most ds d =
    ap (λ l. record { parts = parts; most = most; rows = l }) (front-placed (stands_before parts) most d (stable parts ds) ∙ ap (front most) (sym (ordered-push (stands_before parts) ds d)))

pub documents-push : (rows : List Row) (row : Row) → documents (rows ++ row ∷ []) ≡ documents rows ++ row.document ∷ []
documents-push rows row = map-append (λ (r : Row). r.document) rows (row ∷ [])

-- ---- the view of a sorter

pub none-yet : (parts : List Part) (most : Option ℕ) (rows : List Row) → rows ≡ [] → front_of parts most (documents rows) ≡ no_rows parts most
unfolding stable
none-yet parts None rows e = ap (λ l. front_of parts None (documents l)) e
none-yet parts (Some zero) rows e = ap (λ l. front_of parts (Some zero) (documents l)) e
none-yet parts (Some (suc n)) rows e = ap (λ l. front_of parts (Some (suc n)) (documents l)) e

pub pushed : (parts : List Part) (most : Option ℕ) (old kept new : List Row) (row : Row) → front most (stable parts (documents kept)) ≡ front most (stable parts (documents old)) → new ≡ kept ++ row ∷ [] → front_of parts most (documents new) ≡ with_row (front_of parts most (documents old)) row.document
pushed parts most old kept new row same items =
    ap (λ l. front_of parts most (documents l)) items
    ∙ ap (front_of parts most) (documents-push kept row)
    ∙ sym (row-more parts most (documents kept) row.document)
    ∙ ap (λ l. with_row (record { parts = parts; most = most; rows = l }) row.document) same

-- ---- rows cut to the prefix, if a number is given

pub cut-sorted : (parts : List Part) (most : Option ℕ) (n : ℕ) (xs ys rows : List Row) → most ≡ Some n → documents ys ≡ stable parts (documents xs) → rows ≡ take n ys → documents rows ≡ front most (stable parts (documents xs))
cut-sorted parts most n xs ys rows some e items = ap documents items ∙ front-sorted parts n xs ys e ∙ ap (λ o. front o (stable parts (documents xs))) (sym some)

pub cut-kept : (parts : List Part) (most : Option ℕ) (n : ℕ) (xs ys rows : List Row) → most ≡ Some n → documents ys ≡ stable parts (documents xs) → rows ≡ take n ys → front most (stable parts (documents rows)) ≡ front most (stable parts (documents xs))
cut-kept parts most n xs ys rows some e items =
    ap (λ o. front o (stable parts (documents rows))) some
    ∙ ap (λ l. take n (stable parts (documents l))) items
    ∙ front-kept parts n xs ys e
    ∙ ap (λ o. front o (stable parts (documents xs))) (sym some)

pub uncut : (parts : List Part) (most : Option ℕ) (xs ys rows : List Row) → ((n : ℕ) → most ≡ Some n → ⊥) → documents ys ≡ stable parts (documents xs) → rows ≡ ys → documents rows ≡ front most (stable parts (documents xs))
uncut parts None xs ys rows none e same = ap documents same ∙ e
uncut parts (Some n) xs ys rows none e same = absurd (none n refl)
