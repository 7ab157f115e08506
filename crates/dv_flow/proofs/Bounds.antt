-- How many changes a stage that computes its rows from each row separately returns for a change of one row.
use Rattle.std.specs.Prelude.{◌≡◌, ◌+◌, ◌≤◌, suc, ℕ, drop, Bool, true, false, cond, List, [], ◌∷◌, ◌++◌, length, map, Option, None, Some, is_none, refl}
use Rattle.std.proofs.Common.{ap, arith}
use Rattle.std.specs.Ordering.{is_eq, match_ordering}
use Rattle.std.specs.Cmp.{tied_itself}
use Rattle.std.specs.declared.cmp.Ordering.{Ordering}
use Rattle.std.specs.declared.cmp.Ordering.TheVariants.{Less, Equal, Greater}
use Rattle.std.specs.Option.{option_map}
use Rattle.std.proofs.lemmas.List.{length-append}
use Rattle.dv_value.specs.Tree.{Field}
use Rattle.dv_match.specs.Filter.{Members}
use Rattle.dv_match.specs.Match.{matches}
use Rattle.dv_path.specs.SortSpec as sorts
use Rattle.dv_row.specs.declared.project.Project.{Project}
use Rattle.dv_row.specs.declared.unwind.Unwind.{Unwind}
use Rattle.dv_row.specs.Projecting.{projected}
use Rattle.dv_row.specs.Unwinding.{unwound}
use Rattle.dv_change.specs.declared.change.Change.{Change}
use Rattle.dv_change.specs.declared.change.Change.TheVariants.{Gone}
use Rattle.dv_change.specs.Changes.{Positioned, at, in_row_order, with_change}
use Rattle.dv_change.specs.Inner.Changes.{IsExactChange, IsPositioned, alone, position_changed, row_in}
use Rattle.dv_change.specs.Difference.{diff, gones, puts}
use Rattle.dv_change.specs.Inner.Ordered.{put}
use Rattle.dv_change.specs.Inner.PositionLaws.{pos_order_total}
use Rattle.dv_change.specs.Positions.{PosTree, pos_order}
use Rattle.dv_change.specs.Inner.DiffLaws.{diff-length, puts-length}
use Rattle.dv_flow.specs.Inner.Bounds.{rows_made}
use Rattle.dv_flow.specs.Inner.Matching.{match_ordered, match_single}
use Rattle.dv_flow.specs.Placed.{matched_at, rows_numbered, shown_at, sorted_at, unwound_at}
use Rattle.dv_flow.specs.Inner.Projecting.{project_ordered, project_single}
use Rattle.dv_flow.specs.Inner.Sorting.{sort_empty, sort_exact, sort_ordered, sort_single}
use Rattle.dv_flow.specs.Inner.Unwinding.{but_last, unwind_empty, unwind_exact, unwind_ordered, unwind_single}
use Rattle.dv_flow.proofs.Owed.{row-owed}

-- ---- differences of short lists

-- at one position a row is removed or put
pub diff-alone : (p : PosTree) (a b : Option (List Field)) → length (diff (alone p a) (alone p b)) ≤ 1
diff-alone p None b = by b
  where
    by : (b : Option (List Field)) → length (diff [] (alone p b)) ≤ 1
    by None = omega arith
    by (Some w) = diff-length [] ((p, w) ∷ [])
diff-alone p (Some v) None = diff-length ((p, v) ∷ []) []
diff-alone p (Some v) (Some w) =
    let here : is_eq (pos_order p p) ≡ true = ap is_eq (tied_itself pos_order_total p) in
    let stays : gones ((p, v) ∷ []) ((p, w) ∷ []) ≡ [] = ap (λ b. map {A = PosTree × List Field} (λ e. Gone e.0) (cond (is_none (cond b (Some w) None)) ((p, v) ∷ []) [])) here in
    omega (arith, length-append (gones ((p, v) ∷ []) ((p, w) ∷ [])) (puts ((p, v) ∷ []) ((p, w) ∷ [])), ap length stays, puts-length ((p, v) ∷ []) ((p, w) ∷ []))

put-length : (p : PosTree) (v : List Field) (es : Positioned) → length (put p v es) ≤ suc (length es)
put-length p v [] = omega arith
put-length p v (e ∷ es) = by (pos_order p e.0) (put-length p v es)
  where
    by : (r : Ordering) → length (put p v es) ≤ suc (length es) → length (match_ordering r ((p, v) ∷ e ∷ es) ((e.0, v) ∷ es) (e ∷ put p v es)) ≤ suc (suc (length es))
    by Less h = omega arith
    by Equal h = omega arith
    by Greater h = omega (arith, h)

in_order-length : (es : Positioned) → length (in_row_order es) ≤ length es
in_order-length [] = omega arith
in_order-length (e ∷ es) = omega (arith, put-length e.0 e.1 (in_row_order es), in_order-length es)

-- ---- the stages

match-alone : (form : Members) (p : PosTree) (row : Option (List Field)) → (out : Option (List Field)) × (matched_at form (alone p row) ≡ alone p out)
match-alone form p None = (None, refl)
match-alone form p (Some v) = by (matches form v)
  where
    by : (b : Bool) → (out : Option (List Field)) × (cond b ((p, v) ∷ []) [] ≡ alone p out)
    by true = (Some v, refl)
    by false = (None, refl)

show-alone : (s : Project) (p : PosTree) (row : Option (List Field)) → shown_at s (alone p row) ≡ alone p (option_map (projected s) row)
show-alone s p None = refl
show-alone s p (Some v) = refl

sort-alone : (parts : List sorts.Part) (p : PosTree) (row : Option (List Field)) → length (sorted_at parts (alone p row)) ≤ 1
unfolding sorted_at
sort-alone parts p None = omega arith
sort-alone parts p (Some v) = omega arith

numbered-length : (i : ℕ) (p : PosTree) (ds : List (List Field)) → length (rows_numbered i p ds ++ []) ≡ length ds
numbered-length i p [] = refl
numbered-length i p (d ∷ ds) = ap suc (numbered-length (suc i) p ds)

unwind-alone : (u : Unwind) (p : PosTree) (row : Option (List Field)) → length (unwound_at u (alone p row)) ≤ rows_made u row
unfolding unwound_at
unwind-alone u p None = omega arith
unwind-alone u p (Some v) = omega (arith, in_order-length (rows_numbered 0 p (unwound u v) ++ []), numbered-length 0 p (unwound u v))

module _ (rows : Positioned) (change : Change) (are : IsPositioned rows) (exact : IsExactChange change) where
  pub match_bound : (form : Members) → length (diff (matched_at form rows) (matched_at form (with_change rows change))) ≤ 1
  match_bound form =
      let p = position_changed change in
      let old = match-alone form p (at p rows) in
      let new = match-alone form p (row_in change) in
      rw (row-owed (matched_at form) (λ q. q) (match_ordered form) refl (λ q x. x) (match_single form) rows change are exact) (rw (old.1, new.1) (diff-alone p old.0 new.0))

  pub project_bound : (s : Project) → length (diff (shown_at s rows) (shown_at s (with_change rows change))) ≤ 1
  project_bound s =
      let p = position_changed change in
      rw (row-owed (shown_at s) (λ q. q) (project_ordered s) refl (λ q x. x) (project_single s) rows change are exact) (rw (show-alone s p (at p rows), show-alone s p (row_in change)) (diff-alone p (option_map (projected s) (at p rows)) (option_map (projected s) (row_in change))))

  pub sort_bound : (parts : List sorts.Part) → length (diff (sorted_at parts rows) (sorted_at parts (with_change rows change))) ≤ 2
  sort_bound parts =
      let p = position_changed change in
      omega (arith, ap length (row-owed (sorted_at parts) (λ q. drop (length parts) q) (sort_ordered parts) (sort_empty parts) (sort_exact parts) (sort_single parts) rows change are exact), diff-length (sorted_at parts (alone p (at p rows))) (sorted_at parts (alone p (row_in change))), sort-alone parts p (at p rows), sort-alone parts p (row_in change))

  pub unwind_bound : (u : Unwind) → length (diff (unwound_at u rows) (unwound_at u (with_change rows change))) ≤ rows_made u (at (position_changed change) rows) + rows_made u (row_in change)
  unwind_bound u =
      let p = position_changed change in
      omega (arith, ap length (row-owed (unwound_at u) but_last (unwind_ordered u) (unwind_empty u) (unwind_exact u) (unwind_single u) rows change are exact), diff-length (unwound_at u (alone p (at p rows))) (unwound_at u (alone p (row_in change))), unwind-alone u p (at p rows), unwind-alone u p (row_in change))
