-- The rows of a find: sorted, without the first ones, and up to a limit.
use Rattle.std.proofs.Common.{false, ◌≡◌, ◌++◌, ◌≤◌, ℕ, zero, suc, List, [], ◌∷◌, Option, Some, None, drop, take, refl, ap, sym, ◌∙◌, arith}
use Rattle.std.proofs.lemmas.List.{drop-take}
use Rattle.std.specs.Prelude.{⊤}
use Rattle.dv_value.specs.Tree.{Field}
use Rattle.dv_path.specs.SortSpec.{Part}
use Rattle.dv_sort.specs.Sorting.{stable, ordered, front}
use Rattle.dv_sort.specs.Front.{Front, no_rows, front_of}
use Rattle.dv_catalog.specs.Scan.{limited}
use Rattle.dv_catalog.specs.Inner.ScanParts.{IsEnough}

-- not more than are wanted
abbrev pub IsWithin : ℕ → Option ℕ → Type 0
IsWithin n None = ⊤
IsWithin n (Some most) = n ≤ most

-- a sorter that has received some rows so far, the rows that are left, and all rows
pub record IsSorting (parts : List Part) (most : Option ℕ) (sorter : Front) (left all : List (List Field)) : Type 0 where
  pub came : List (List Field)
  pub holds : sorter ≡ front_of parts most came
  pub whole : came ++ left ≡ all

front_none : (most : Option ℕ) → front most (ordered {X = List Field} (λ d e. false) []) ≡ []
front_none None = refl
front_none (Some zero) = refl
front_none (Some (suc n)) = refl

module _ (parts : List Part) (most : Option ℕ) where
  pub sorting_starts : (sorter : Front) (all : List (List Field)) → sorter ≡ no_rows parts most → IsSorting parts most sorter all all
  unfolding stable
  sorting_starts sorter all is = record { came = []; holds = is ∙ (λ i. record { parts = parts; most = most; rows = sym (front_none most) i }); whole = refl }

take_again : (n : ℕ) (xs : List (List Field)) → take n (take n xs) ≡ take n xs
take_again zero [] = refl
take_again zero (x ∷ xs) = refl
take_again (suc n) [] = refl
take_again (suc n) (x ∷ xs) = ap (λ (rest : List (List Field)). x ∷ rest) (take_again n xs)

-- no more rows than these are needed
pub window_enough : (skip limit : ℕ) (most : Option ℕ) (rows : List (List Field)) → IsEnough skip limit most → limited limit (drop skip (front most rows)) ≡ limited limit (drop skip rows)
window_enough skip limit None rows enough = refl
window_enough skip zero (Some m) rows enough = absurd (omega (arith, enough.0))
window_enough skip (suc n) (Some m) rows enough =
    ap (λ (k : ℕ). take (suc n) (drop skip (take k rows))) enough.1 ∙ ap (take (suc n)) (drop-take skip (suc n) rows) ∙ take_again (suc n) (drop skip rows)
