-- The rows of two rows' elements, without those that both have.
use Rattle.std.specs.Prelude.{◌≡◌, ◌<◌, ◌+◌, ℕ, suc, Bool, true, false, List, [], ◌∷◌, ◌++◌, None, Some, drop, length, slice_get, slice_index_or, refl}
use Rattle.std.proofs.Common.{add-one, ap, arith, inl, inr, sym, ◌∙◌}
use Rattle.std.proofs.lemmas.List.{at_drop_more, drop_more}
use Rattle.std.proofs.lemmas.Option.{get_or_from_slice_get}
use Rattle.std.specs.Cmp.{Equal-is}
use Rattle.std.specs.Ordering.{is_eq}
use Rattle.std.specs.List.{AllByRecursion}
use Rattle.std.specs.Map.{keys_of}
use Rattle.dv_value.specs.Tree.{Field}
use Rattle.dv_row.specs.Inner.UnwoundRows.{AreCommon}
use Rattle.dv_row.specs.Unwinding.{unwound}
use Rattle.dv_row.specs.declared.unwind.Unwind.{Unwind}
use Rattle.dv_change.specs.declared.position.Part.TheVariants.{At}
use Rattle.dv_change.specs.Changes.{at, in_row_order}
use Rattle.dv_change.specs.Inner.DiffLaws.{IsPartAt}
use Rattle.dv_change.specs.Inner.Ordered.{put}
use Rattle.dv_change.specs.Inner.PositionLaws.{pos_order_total}
use Rattle.dv_change.specs.Inner.Told.{diff_told}
use Rattle.dv_change.specs.Inner.ToldLaws.{told-parts}
use Rattle.dv_change.specs.Positions.{IsExact, PosTree, pos_order}
use Rattle.dv_flow.specs.Inner.Gathered.{at-in_order, positioned-in_order}
use Rattle.dv_flow.specs.Inner.Unwinding.{behind-exact, numbered-exact, rows_unmarked, unwound_alone}
use Rattle.dv_flow.specs.Placed.{rows_numbered, unwound_at}
use Rattle.dv_flow.proofs.Unwound.{less-numbered}

module _ (marked : List Bool) (p : PosTree) where
  unmarked-exact : (i : ℕ) (ds : List (List Field)) → IsExact p → AllByRecursion IsExact (keys_of (rows_unmarked marked i p ds))
  unmarked-exact i [] x = tt
  unmarked-exact i (d ∷ ds) x = by (slice_index_or marked i false) refl (unmarked-exact (suc i) ds x)
    where
      by : (m : Bool) → slice_index_or marked i false ≡ m → AllByRecursion IsExact (keys_of (rows_unmarked marked (suc i) p ds)) → AllByRecursion IsExact (keys_of (rows_unmarked marked i p (d ∷ ds)))
      by true m rest = rw m rest
      by false m rest = rw m (behind-exact p i x, rest)

  -- if no row is marked, none is left out
  pub unmarked-all : (i : ℕ) (ds : List (List Field)) → ((j k : ℕ) → k ≡ i + j → slice_index_or marked k false ≡ true → slice_get ds j ≡ None) → rows_unmarked marked i p ds ≡ rows_numbered i p ds
  unmarked-all i [] none = refl
  unmarked-all i (d ∷ ds) none = by (slice_index_or marked i false) refl (unmarked-all (suc i) ds (λ j k e m. none (suc j) k (omega (arith, e)) m))
    where
      by : (m : Bool) → slice_index_or marked i false ≡ m → rows_unmarked marked (suc i) p ds ≡ rows_numbered (suc i) p ds → rows_unmarked marked i p (d ∷ ds) ≡ rows_numbered i p (d ∷ ds)
      by true m rest = let no : Some d ≡ None = none 0 i (omega arith) m in absurd cc
      by false m rest = rw m (ap (λ es. (p ++ At i ∷ [], d) ∷ es) rest)

  -- the row at a place, before those after it
  pub unmarked-past : (rows : List (List Field)) (i : ℕ) → i < length rows → slice_index_or marked i false ≡ true → rows_unmarked marked i p (drop i rows) ≡ rows_unmarked marked (i + 1) p (drop (i + 1) rows)
  unmarked-past rows i within m = at_drop_more (rows_unmarked marked i p) rows i [] within ∙ rw m (ap (λ n. rows_unmarked marked n p (drop (i + 1) rows)) (sym (add-one i)))

  pub unmarked-here : (rows : List (List Field)) (i : ℕ) (d : List Field) → i < length rows → slice_get rows i ≡ Some d → slice_index_or marked i false ≡ false
      → in_row_order (rows_unmarked marked i p (drop i rows)) ≡ put (p ++ At i ∷ []) d (in_row_order (rows_unmarked marked (i + 1) p (drop (i + 1) rows)))
  unmarked-here rows i d within here m =
      let rest = drop (i + 1) rows in
      ap (λ ds. in_row_order (rows_unmarked marked i p ds)) (drop_more rows i d within ∙ ap (λ e. e ∷ rest) (get_or_from_slice_get rows i d d here))
      ∙ rw m (ap (λ n. put (p ++ At i ∷ []) d (in_row_order (rows_unmarked marked n p rest))) (sym (add-one i)))

  module _ (q : PosTree) where
    -- a position with a number is none of those with higher numbers
    past-number : (i k : ℕ) (ds : List (List Field)) → is_eq (pos_order q (p ++ At i ∷ [])) ≡ true → i < k → at q (rows_unmarked marked k p ds) ≡ None
    past-number i k [] here less = refl
    past-number i k (d ∷ ds) here less = by (slice_index_or marked k false) refl (past-number i (suc k) ds here (omega (arith, less)))
      where
        other : is_eq (pos_order q (p ++ At k ∷ [])) ≡ false
        other = ap is_eq (pos_order_total.congr q (p ++ At i ∷ []) (p ++ At k ∷ []) ((Equal-is (pos_order q (p ++ At i ∷ []))).0 here) ∙ less-numbered p i k less)

        by : (m : Bool) → slice_index_or marked k false ≡ m → at q (rows_unmarked marked (suc k) p ds) ≡ None → at q (rows_unmarked marked k p (d ∷ ds)) ≡ None
        by true m rest = rw m rest
        by false m rest = rw (m, other) rest

    -- at a marked position both have the same
    part : (i : ℕ) (ds es : List (List Field)) → ((j k : ℕ) → k ≡ i + j → slice_index_or marked k false ≡ true → slice_get ds j ≡ slice_get es j)
        → IsPartAt (rows_numbered i p ds) (rows_numbered i p es) (rows_unmarked marked i p ds) (rows_unmarked marked i p es) q
    part i [] es same = inl (refl, ap (at q) (unmarked-all i es (λ j k e m. sym (same j k e m))))
    part i (d ∷ ds) [] same = inl (ap (at q) (unmarked-all i (d ∷ ds) same), refl)
    part i (d ∷ ds) (e ∷ es) same =
        by (slice_index_or marked i false) refl (is_eq (pos_order q (p ++ At i ∷ []))) refl (part (suc i) ds es (λ j k e m. same (suc j) k (omega (arith, e)) m))
      where
        by : (m : Bool) → slice_index_or marked i false ≡ m → (b : Bool) → is_eq (pos_order q (p ++ At i ∷ [])) ≡ b
            → IsPartAt (rows_numbered (suc i) p ds) (rows_numbered (suc i) p es) (rows_unmarked marked (suc i) p ds) (rows_unmarked marked (suc i) p es) q
            → IsPartAt (rows_numbered i p (d ∷ ds)) (rows_numbered i p (e ∷ es)) (rows_unmarked marked i p (d ∷ ds)) (rows_unmarked marked i p (e ∷ es)) q
        by true m true here rest = rw (m, here) (inr (past-number i (suc i) ds here (omega arith), past-number i (suc i) es here (omega arith), same 0 i (omega arith) m))
        by true m false here rest = rw (m, here) rest
        by false m true here rest = rw (m, here) (inl (refl, refl))
        by false m false here rest = rw (m, here) rest

    part-in_order : (ds es : List (List Field)) → AreCommon ds es marked
        → IsPartAt (in_row_order (rows_numbered 0 p ds)) (in_row_order (rows_numbered 0 p es)) (in_row_order (rows_unmarked marked 0 p ds)) (in_row_order (rows_unmarked marked 0 p es)) q
    part-in_order ds es common =
        rw (at-in_order q (rows_numbered 0 p ds), at-in_order q (rows_numbered 0 p es), at-in_order q (rows_unmarked marked 0 p ds), at-in_order q (rows_unmarked marked 0 p es))
        (part 0 ds es (λ j k e m. let same : k ≡ j = omega (arith, e) in common j (ap (λ n. slice_index_or marked n false) (sym same) ∙ m)))

  -- the difference of the unmarked rows is the difference of all rows
  pub told-unmarked : (u : Unwind) (d e : List Field) (ds es : List (List Field)) → IsExact p → ds ≡ unwound u d → es ≡ unwound u e → AreCommon ds es marked
      → diff_told (in_row_order (rows_unmarked marked 0 p ds)) (in_row_order (rows_unmarked marked 0 p es)) ≡ diff_told (unwound_at u ((p, d) ∷ [])) (unwound_at u ((p, e) ∷ []))
  told-unmarked u d e ds es x made others common =
      let all = λ (rows : List (List Field)). positioned-in_order (rows_numbered 0 p rows) (numbered-exact 0 p rows x) in
      let some = λ (rows : List (List Field)). positioned-in_order (rows_unmarked marked 0 p rows) (unmarked-exact 0 rows x) in
      sym (told-parts (in_row_order (rows_numbered 0 p ds)) (in_row_order (rows_numbered 0 p es)) (in_row_order (rows_unmarked marked 0 p ds)) (in_row_order (rows_unmarked marked 0 p es)) (all ds) (all es) (some ds) (some es) (λ q exact. part-in_order q ds es common))
      ∙ (λ i. diff_told (unwound_alone u p d ds made i) (unwound_alone u p e es others i))
