-- First batches of few rows.
use Rattle.std.proofs.Common.{◌≡◌, ℕ, ◌<◌, ◌≤◌, List, [], ◌∷◌, length, refl, sym, arith}
use Rattle.std.proofs.lemmas.Bool.{le-leb}
use Rattle.dv_value.specs.Tree.{Field}
use Rattle.dv_cursor.specs.Batch.{batch, rows_behind}

-- if there is at most one row, the first batch has it
pub few_are_all : (count : ℕ) (rows : List (List Field)) → 0 < count → length rows ≤ 1 → rows ≡ batch count rows
unfolding batch
few_are_all count [] some few = refl
few_are_all count (row ∷ []) some few = rw (le-leb 1 count (omega (arith, some))) refl
few_are_all count (row ∷ other ∷ rows) some few = absurd (omega (arith, few))

-- so no row is left after it
pub none_behind : (count : ℕ) (rows : List (List Field)) → 0 < count → length rows ≤ 1 → [] ≡ rows_behind count rows
none_behind count [] some few = rw (sym (few_are_all count [] some few)) refl
none_behind count (row ∷ []) some few = rw (sym (few_are_all count (row ∷ []) some few)) refl
none_behind count (row ∷ other ∷ rows) some few = absurd (omega (arith, few))
