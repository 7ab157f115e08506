-- Sums over rows, as a row is added or removed.
use Rattle.std.specs.Prelude.{◌≡◌, ◌≤◌, ℕ, ◌+◌, ◌-◌, ◌+ℤ◌, ◌-ℤ◌, nat_eq, Bool, true, false, not, ◌||◌, cond, [], ◌∷◌, length, Option, None, Some, refl}
use Rattle.std.proofs.Common.{ap, arith, ◌∙◌}
use Rattle.std.proofs.lemmas.Bool.{ne_eqb}
use Rattle.std.proofs.lemmas.Int.{ints}
use Rattle.std.specs.declared.cmp.Ordering.{Ordering}
use Rattle.std.specs.declared.cmp.Ordering.TheVariants.{Less, Equal, Greater}
use Rattle.std.specs.List.{AllByRecursion, list_any}
use Rattle.std.specs.Ordering.{is_eq, match_ordering}
use Rattle.dv_value.specs.Tree.{Tree}
use Rattle.dv_row.specs.Row.{Row}
use Rattle.dv_change.specs.Changes.{Positioned, at, forget}
use Rattle.dv_change.specs.Inner.Ordered.{gone, put}
use Rattle.dv_change.specs.Positions.{PosTree, pos_order}
use Rattle.dv_gather.specs.declared.accumulator.Accumulator.TheVariants.{Sum}
use Rattle.dv_gather.specs.Grouping.{Accumulation, values_over, with_present}
use Rattle.dv_gather.specs.Sums.{addend, is_int64, total}
use Rattle.dv_group.specs.Inner.SumBounds.{IsSummableFor, IsWithinCount, most_rows}
use Rattle.dv_group.specs.Inner.AccumulatorStates.{adds, sum_over, sum_state, field_value, int64s_in, int64s_over}

-- ---- one row more, and one less

-- which row is at the first position
first-there : (b : Bool) (d e : Row) (r : Option Row) → b ≡ true → cond b (Some e) r ≡ Some d → e ≡ d
first-there true d e r is there = cc
first-there false d e r is there = cc

none-there : (b : Bool) (e : Row) (r : Option Row) → cond b (Some e) r ≡ None → (b ≡ true → ⊥) × (r ≡ None)
none-there true e r there = cc
none-there false e r there = ((λ is. cc), there)

some-there : (b : Bool) (d e : Row) (r : Option Row) → b ≡ false → cond b (Some e) r ≡ Some d → r ≡ Some d
some-there true d e r is there = cc
some-there false d e r is there = there

module _ (a : Accumulation) (p : PosTree) (d : Row) where
  pub sum-put : (rows : Positioned) → at p rows ≡ None → sum_over a (put p d rows) ≡ sum_over a rows +ℤ adds (field_value a d)
  sum-put [] none = omega (arith, ints)
  sum-put (e ∷ rows) none = by (pos_order p e.0) (λ none. sum-put rows none) (none-there (is_eq (pos_order p e.0)) e.1 (at p rows) none)
    where
      by : (r : Ordering) → (at p rows ≡ None → sum_over a (put p d rows) ≡ sum_over a rows +ℤ adds (field_value a d)) → (is_eq r ≡ true → ⊥) × (at p rows ≡ None) → sum_over a (match_ordering r ((p, d) ∷ e ∷ rows) ((e.0, d) ∷ rows) (e ∷ put p d rows)) ≡ sum_over a (e ∷ rows) +ℤ adds (field_value a d)
      by Less rest none = omega (arith, ints)
      by Equal rest none = absurd (none.0 refl)
      by Greater rest none = let behind = rest none.1 in omega (arith, ints, behind)

  pub int64s-put : (rows : Positioned) → at p rows ≡ None → int64s_over a (put p d rows) ≡ int64s_over a rows + int64s_in (field_value a d)
  int64s-put [] none = omega arith
  int64s-put (e ∷ rows) none = by (pos_order p e.0) (λ none. int64s-put rows none) (none-there (is_eq (pos_order p e.0)) e.1 (at p rows) none)
    where
      by : (r : Ordering) → (at p rows ≡ None → int64s_over a (put p d rows) ≡ int64s_over a rows + int64s_in (field_value a d)) → (is_eq r ≡ true → ⊥) × (at p rows ≡ None) → int64s_over a (match_ordering r ((p, d) ∷ e ∷ rows) ((e.0, d) ∷ rows) (e ∷ put p d rows)) ≡ int64s_over a (e ∷ rows) + int64s_in (field_value a d)
      by Less rest none = omega arith
      by Equal rest none = absurd (none.0 refl)
      by Greater rest none = let behind = rest none.1 in omega (arith, behind)

  pub sum-gone : (rows : Positioned) → at p rows ≡ Some d → sum_over a (gone p rows) ≡ sum_over a rows -ℤ adds (field_value a d)
  sum-gone [] there = cc
  sum-gone (e ∷ rows) there = by (is_eq (pos_order p e.0)) refl (λ here. sum-gone rows (some-there (is_eq (pos_order p e.0)) d e.1 (at p rows) here there))
    where
      by : (b : Bool) → is_eq (pos_order p e.0) ≡ b → (is_eq (pos_order p e.0) ≡ false → sum_over a (gone p rows) ≡ sum_over a rows -ℤ adds (field_value a d)) → sum_over a (cond b rows (e ∷ gone p rows)) ≡ sum_over a (e ∷ rows) -ℤ adds (field_value a d)
      by true here rest =
          let same : adds (field_value a e.1) ≡ adds (field_value a d) = ap (λ f. adds (field_value a f)) (first-there (is_eq (pos_order p e.0)) d e.1 (at p rows) here there) in
          omega (arith, ints, same)
      by false here rest = let behind = rest here in omega (arith, ints, behind)

  -- a row that is there was counted
  pub counted : (rows : Positioned) → at p rows ≡ Some d → int64s_in (field_value a d) ≤ int64s_over a rows
  counted [] there = cc
  counted (e ∷ rows) there = by (is_eq (pos_order p e.0)) refl (λ here. counted rows (some-there (is_eq (pos_order p e.0)) d e.1 (at p rows) here there))
    where
      by : (b : Bool) → is_eq (pos_order p e.0) ≡ b → (is_eq (pos_order p e.0) ≡ false → int64s_in (field_value a d) ≤ int64s_over a rows) → int64s_in (field_value a d) ≤ int64s_over a (e ∷ rows)
      by true here rest =
          let same : int64s_in (field_value a e.1) ≡ int64s_in (field_value a d) = ap (λ f. int64s_in (field_value a f)) (first-there (is_eq (pos_order p e.0)) d e.1 (at p rows) here there) in
          omega (arith, same)
      by false here rest = let behind = rest here in omega (arith, behind)

  pub int64s-gone : (rows : Positioned) → at p rows ≡ Some d → int64s_over a (gone p rows) ≡ int64s_over a rows - int64s_in (field_value a d)
  int64s-gone [] there = cc
  int64s-gone (e ∷ rows) there = by (is_eq (pos_order p e.0)) refl (λ here. let behind = some-there (is_eq (pos_order p e.0)) d e.1 (at p rows) here there in (int64s-gone rows behind, counted rows behind))
    where
      by : (b : Bool) → is_eq (pos_order p e.0) ≡ b → (is_eq (pos_order p e.0) ≡ false → (int64s_over a (gone p rows) ≡ int64s_over a rows - int64s_in (field_value a d)) × (int64s_in (field_value a d) ≤ int64s_over a rows)) → int64s_over a (cond b rows (e ∷ gone p rows)) ≡ int64s_over a (e ∷ rows) - int64s_in (field_value a d)
      by true here rest =
          let same : int64s_in (field_value a e.1) ≡ int64s_in (field_value a d) = ap (λ f. int64s_in (field_value a f)) (first-there (is_eq (pos_order p e.0)) d e.1 (at p rows) here there) in
          omega (arith, same)
      by false here rest = let behind = rest here in omega (arith, behind.0, behind.1)

none-int64 : (n : ℕ) → nat_eq (0 + n) 0 ≡ nat_eq n 0
none-int64 n = ap (λ m. nat_eq m 0) (omega arith)

some-int64 : (n : ℕ) → nat_eq (1 + n) 0 ≡ false
some-int64 n = ne_eqb (1 + n) 0 (λ e. omega (arith, e))

module _ (a : Accumulation) where
  -- ---- the sum is that of the values

  pub total-is : (rows : Positioned) → sum_over a rows ≡ total (values_over a.argument (forget rows))
  total-is [] = refl
  total-is (r ∷ rows) = by (field_value a r.1) (total-is rows)
    where
      by : (v : Option Tree) → sum_over a rows ≡ total (values_over a.argument (forget rows)) → adds v +ℤ sum_over a rows ≡ total (with_present v (values_over a.argument (forget rows)))
      by None rest = omega (arith, ints, rest)
      by (Some v) rest = ap (λ n. addend v +ℤ n) rest

  pub narrow-is : (rows : Positioned) → nat_eq (int64s_over a rows) 0 ≡ not (list_any is_int64 (values_over a.argument (forget rows)))
  narrow-is [] = refl
  narrow-is (r ∷ rows) = by (field_value a r.1) (narrow-is rows)
    where
      by : (v : Option Tree) → nat_eq (int64s_over a rows) 0 ≡ not (list_any is_int64 (values_over a.argument (forget rows))) → nat_eq (int64s_in v + int64s_over a rows) 0 ≡ not (list_any is_int64 (with_present v (values_over a.argument (forget rows))))
      by None rest = none-int64 (int64s_over a rows) ∙ rest
      by (Some v) rest = one (is_int64 v)
        where
          one : (b : Bool) → nat_eq (cond b 1 0 + int64s_over a rows) 0 ≡ not (b || list_any is_int64 (values_over a.argument (forget rows)))
          one true = some-int64 (int64s_over a rows)
          one false = none-int64 (int64s_over a rows) ∙ rest

  -- ---- how far it can be from 0

  int64s-one : (v : Option Tree) → int64s_in v ≤ 1
  int64s-one None = omega arith
  int64s-one (Some v) = one (is_int64 v)
    where
      one : (b : Bool) → cond b 1 0 ≤ 1
      one true = omega arith
      one false = omega arith

  within-rows : (rows : Positioned) → AllByRecursion (λ e. IsSummableFor Sum a e.1) rows → IsWithinCount (length rows) (sum_state (sum_over a rows) (int64s_over a rows))
  within-rows [] all = ((omega (arith, ints), omega (arith, ints)), omega arith)
  within-rows (r ∷ rows) all =
      let rest = within-rows rows all.1 in
      let low = all.0.0 in
      let high = all.0.1 in
      let int64 = int64s-one (field_value a r.1) in
      ((omega (arith, ints, rest.0.0, low), omega (arith, ints, rest.0.1, high)), omega (arith, rest.1, int64))

  pub within-most : (rows : Positioned) → length rows ≤ most_rows → AllByRecursion (λ e. IsSummableFor Sum a e.1) rows → IsWithinCount most_rows (sum_state (sum_over a rows) (int64s_over a rows))
  within-most rows few all =
      let rest = within-rows rows all in
      ((omega (arith, ints, rest.0.0, few), omega (arith, ints, rest.0.1, few)), omega (arith, rest.1, few))
