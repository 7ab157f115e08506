-- An index: its name, its path, and whether it is unique. What it holds isn't part of it: that is defined by the documents (`Search` of
-- `dv_index`).
use Rattle.std.specs.Prelude.{ℕ, Bool, false, List, [], ◌∷◌, codes}

-- what users see of an index; in a unique one no two documents have the same key
pub record IndexForm : Type 0 where
  pub name : List ℕ
  pub path : List (List ℕ)
  pub unique : Bool

-- the index `_id_`, which every collection has; `unique` is false: that no two documents have the same `_id` is the collection's own rule
abbrev pub id_form : IndexForm
id_form = record { name = codes "_id_"; path = codes "_id" ∷ []; unique = false }
