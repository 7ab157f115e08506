-- What holds of all documents holds of those that are found.
use Rattle.std.proofs.Common.{ℕ, zero, suc, Bool, true, false, cond, List, [], ◌∷◌, fold, drop, take}
use Rattle.std.specs.List.{AllByRecursion}
use Rattle.dv_value.specs.Tree.{Field}
use Rattle.dv_match.specs.Filter.{Members}
use Rattle.dv_match.specs.Match.{matches}
use Rattle.dv_path.specs.SortSpec.{Part}
use Rattle.dv_sort.specs.Sorting.{stable, placed, stands_before}
use Rattle.dv_catalog.specs.Scan.{matching, limited, scan}

module _ (P : List Field → Type 0) where
  all_kept : (b : Bool) (d : List Field) (ds : List (List Field)) → P d → AllByRecursion P ds → AllByRecursion P (cond b (d ∷ ds) ds)
  all_kept true d ds h all = (h, all)
  all_kept false d ds h all = all

  all_matching : (form : Members) (ds : List (List Field)) → AllByRecursion P ds → AllByRecursion P (matching form ds)
  all_matching form [] all = tt
  all_matching form (d ∷ ds) all = all_kept (matches form d) d (matching form ds) all.0 (all_matching form ds all.1)

  all_drop : (n : ℕ) (ds : List (List Field)) → AllByRecursion P ds → AllByRecursion P (drop n ds)
  all_drop zero ds all = all
  all_drop (suc n) [] all = tt
  all_drop (suc n) (d ∷ ds) all = all_drop n ds all.1

  pub all_take : (n : ℕ) (ds : List (List Field)) → AllByRecursion P ds → AllByRecursion P (take n ds)
  all_take zero [] all = tt
  all_take zero (d ∷ ds) all = tt
  all_take (suc n) [] all = tt
  all_take (suc n) (d ∷ ds) all = (all.0, all_take n ds all.1)

  all_limited : (n : ℕ) (ds : List (List Field)) → AllByRecursion P ds → AllByRecursion P (limited n ds)
  all_limited zero ds all = all
  all_limited (suc n) ds all = all_take (suc n) ds all

  pub all_unsorted : (form : Members) (skip limit : ℕ) (ds : List (List Field)) → AllByRecursion P ds → AllByRecursion P (limited limit (drop skip (matching form ds)))
  all_unsorted form skip limit ds all = all_limited limit (drop skip (matching form ds)) (all_drop skip (matching form ds) (all_matching form ds all))

  all_put : (b : Bool) (x y : List Field) (ys rest : List (List Field)) → P x → AllByRecursion P (y ∷ ys) → AllByRecursion P rest → AllByRecursion P (cond b (x ∷ y ∷ ys) (y ∷ rest))
  all_put true x y ys rest h all others = (h, all)
  all_put false x y ys rest h all others = (all.0, others)

  pub all_placed : (before : List Field → List Field → Bool) (x : List Field) (ys : List (List Field)) → P x → AllByRecursion P ys → AllByRecursion P (placed before x ys)
  all_placed before x [] h all = (h, tt)
  all_placed before x (y ∷ ys) h all = all_put (before x y) x y ys (placed before x ys) h all (all_placed before x ys h all.1)

  all_ordered : (before : List Field → List Field → Bool) (so_far xs : List (List Field)) → AllByRecursion P so_far → AllByRecursion P xs → AllByRecursion P (fold (λ ys x. placed before x ys) so_far xs)
  all_ordered before so_far [] placed_all all = placed_all
  all_ordered before so_far (x ∷ xs) placed_all all = all_ordered before (placed before x so_far) xs (all_placed before x so_far all.0 placed_all) all.1

  pub all_stable : (parts : List Part) (ds : List (List Field)) → AllByRecursion P ds → AllByRecursion P (stable parts ds)
  unfolding stable
  all_stable parts ds all = all_ordered (stands_before parts) [] ds tt all

  pub all_scanned : (form : Members) (parts : List Part) (skip limit : ℕ) (ds : List (List Field)) → AllByRecursion P ds → AllByRecursion P (scan form parts skip limit ds)
  all_scanned form parts skip limit ds all =
      let rows = stable parts (matching form ds) in
      all_limited limit (drop skip rows) (all_drop skip rows (all_stable parts (matching form ds) (all_matching form ds all)))
