-- Batches joined.
use Rattle.std.proofs.Common.{◌≡◌, ℕ, zero, suc, Bool, true, false, List, [], ◌∷◌, ◌++◌, take, drop, length, cond, refl, ap, ◌∙◌, append_assoc}
use Rattle.dv_value.specs.Tree.{Field}
use Rattle.dv_cursor.specs.Batch.{can_hold, longest_front, batch, rows_behind}
use Rattle.dv_cursor.specs.Inner.Runs.{batches_joined, behind_all}

abbrev Rows : Type 0
Rows = List (List Field)

front : (n : ℕ) (rows : Rows) → take n rows ++ drop (length (take n rows)) rows ≡ rows
front zero rows = refl
front (suc n) [] = refl
front (suc n) (row ∷ rows) = ap (λ (rs : Rows). row ∷ rs) (front n rows)

longest_behind : (count n : ℕ) (rows : Rows) → longest_front count n rows ++ drop (length (longest_front count n rows)) rows ≡ rows
longest_behind count zero rows = refl
longest_behind count (suc n) rows = at (can_hold count (take (suc n) rows)) (longest_behind count n rows)
  where
    at : (b : Bool) → longest_front count n rows ++ drop (length (longest_front count n rows)) rows ≡ rows
        → cond b (take (suc n) rows) (longest_front count n rows) ++ drop (length (cond b (take (suc n) rows) (longest_front count n rows))) rows ≡ rows
    at true shorter = front (suc n) rows
    at false shorter = shorter

pub batch_behind : (count : ℕ) (rows : Rows) → batch count rows ++ rows_behind count rows ≡ rows
unfolding batch
batch_behind count rows = longest_behind count (length rows) rows

pub joined_behind : (counts : List ℕ) (rows : Rows) → batches_joined counts rows ++ behind_all counts rows ≡ rows
joined_behind [] rows = refl
joined_behind (count ∷ counts) rows =
    append_assoc (batch count rows) (batches_joined counts (rows_behind count rows)) (behind_all counts (rows_behind count rows))
    ∙ ap (λ (rs : Rows). batch count rows ++ rs) (joined_behind counts (rows_behind count rows))
    ∙ batch_behind count rows
