-- The first documents in the order of a sort, as documents arrive one at a time.
use Rattle.std.specs.Prelude.{ℕ, List, [], Option}
use Rattle.dv_value.specs.Tree.{Field}
use Rattle.dv_path.specs.SortSpec.{Part}
use Rattle.dv_sort.specs.Sorting.{stands_before, placed, stable, front}

-- a sort, the number of wanted rows (all if there is no number), and the first rows so far
pub record Front : Type 0 where
  pub parts : List Part
  pub most : Option ℕ
  pub rows : List (List Field)

-- the first rows before any document has arrived
abbrev pub no_rows : List Part → Option ℕ → Front
no_rows parts most = record { parts = parts; most = most; rows = [] }

-- the first rows after one more document
abbrev pub with_row : Front → List Field → Front
with_row f d = record { parts = f.parts; most = f.most; rows = front f.most (placed (stands_before f.parts) d f.rows) }

-- the first rows after these documents
abbrev pub front_of : List Part → Option ℕ → List (List Field) → Front
front_of parts most rows = record { parts = parts; most = most; rows = front most (stable parts rows) }
