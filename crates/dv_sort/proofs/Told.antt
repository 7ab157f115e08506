-- The laws of sorting, over documents.
use Rattle.std.proofs.Common.{◌≡◌, ◌∙◌, ap, sym, refl, ℕ, zero, suc, min, List, [], ◌∷◌, take, arith, Some}
use Rattle.std.specs.List.Sorted.{IsPermutation, IsSortedBy, IsStableBy}
use Rattle.dv_value.specs.Tree.{Field}
use Rattle.dv_path.specs.SortSpec.{Part}
use Rattle.dv_sort.specs.Sorting.{stands_before, stable, front}
use Rattle.dv_sort.proofs.Insertion.{Above, Up, ordered-permutes, ordered-stable, sorted-up, up-ordered, ordered-up, only-order}
use Rattle.dv_sort.proofs.Standing.{before-ranks}

pub permuted : (parts : List Part) (rows : List (List Field)) → IsPermutation rows (stable parts rows)
unfolding stable
permuted parts rows = ordered-permutes (stands_before parts) rows

pub ascending : (parts : List Part) (rows : List (List Field)) → IsSortedBy (stands_before parts) (stable parts rows)
unfolding stable
ascending parts rows = sorted-up (stands_before parts) (before-ranks parts) (stable parts rows) (up-ordered (stands_before parts) (before-ranks parts) rows)

pub ties_kept : (parts : List Part) (rows : List (List Field)) → IsStableBy (stands_before parts) rows (stable parts rows)
unfolding stable
ties_kept parts rows = ordered-stable (stands_before parts) (before-ranks parts) rows

pub only : (parts : List Part) (rows others : List (List Field)) → IsSortedBy (stands_before parts) others → IsStableBy (stands_before parts) rows others → others ≡ stable parts rows
unfolding stable
only parts rows others s t = only-order (stands_before parts) (before-ranks parts) rows others s t

pub again : (parts : List Part) (rows : List (List Field)) → stable parts (stable parts rows) ≡ stable parts rows
unfolding stable
again parts rows = ordered-up (stands_before parts) (before-ranks parts) (stable parts rows) (up-ordered (stands_before parts) (before-ranks parts) rows)

unordered-above : (d : List Field) (rows : List (List Field)) → Above (stands_before []) (before-ranks []) d rows
unordered-above d [] = tt
unordered-above d (e ∷ rows) = (refl, unordered-above d rows)

unordered : (rows : List (List Field)) → Up (stands_before []) (before-ranks []) rows
unordered [] = tt
unordered (d ∷ rows) = (unordered-above d rows, unordered rows)

pub no_path : (rows : List (List Field)) → stable [] rows ≡ rows
unfolding stable
no_path rows = ordered-up (stands_before []) (before-ranks []) rows (unordered rows)

front-nil : (n : ℕ) → take n (let rows : List (List Field) = [] in rows) ≡ []
front-nil zero = refl
front-nil (suc n) = refl

pub lesser_front : (m n : ℕ) (rows : List (List Field)) → front (Some m) (front (Some n) rows) ≡ front (Some (min m n)) rows
lesser_front zero n rows = ap (λ k. take k rows) (let e : zero ≡ min zero n = omega arith in e)
lesser_front (suc m) zero rows = ap (λ k. take k rows) (let e : zero ≡ min (suc m) zero = omega arith in e)
lesser_front (suc m) (suc n) [] = sym (front-nil (min (suc m) (suc n)))
lesser_front (suc m) (suc n) (d ∷ rows) = ap (λ l. d ∷ l) (lesser_front m n rows) ∙ ap (λ k. take k (d ∷ rows)) (let e : suc (min m n) ≡ min (suc m) (suc n) = omega arith in e)
