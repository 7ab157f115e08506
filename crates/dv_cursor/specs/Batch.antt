-- Batches of rows (MongoDB manual, "find", "getMore": `batchSize`). The greatest size of a batch in bytes is this server's own.
use Rattle.std.specs.Prelude.{ℕ, zero, suc, ◌+◌, ◌&&◌, ◌||◌, Bool, List, [], ◌∷◌, drop, take, length, nat_le, if◌then◌else◌}
use Rattle.dv_value.specs.Tree.{Field}
use Rattle.dv_value.specs.Spelling.{spelling}

-- the sum of the rows' encodings in bytes
abbrev pub total_size : List (List Field) → ℕ
total_size [] = 0
total_size (row ∷ rows) = length (spelling row) + total_size rows

-- the greatest size in bytes of a batch with more than one row
abbrev pub batch_limit : ℕ
batch_limit = 16777216

-- whether these rows can be a batch of at most `count` rows: a single row of any size, or several within the size limit
abbrev pub can_hold : ℕ → List (List Field) → Bool
can_hold count rows = nat_le (length rows) count && (nat_le (length rows) 1 || nat_le (total_size rows) batch_limit)

-- the longest prefix of at most n rows that can be a batch
abbrev pub longest_front : ℕ → ℕ → List (List Field) → List (List Field)
longest_front count zero rows = []
longest_front count (suc n) rows = if can_hold count (take (suc n) rows) then take (suc n) rows else longest_front count n rows

-- the first batch of these rows: the longest prefix that can be one
unfoldable pub batch : ℕ → List (List Field) → List (List Field)
batch count rows = longest_front count (length rows) rows

-- the rows after the first batch
abbrev pub rows_behind : ℕ → List (List Field) → List (List Field)
rows_behind count rows = drop (length (batch count rows)) rows
