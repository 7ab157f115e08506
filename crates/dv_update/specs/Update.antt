-- Parsed updates (MongoDB manual, "Update Operators"). The choice of operators is this server's own.
use Rattle.std.specs.Prelude.{ℕ, List}
use Rattle.dv_value.specs.Tree.{Tree, Field}
use Rattle.dv_match.specs.Filter.{Test}
use Rattle.dv_update.specs.declared.number.Number.{Number}

-- which elements `$pull` removes: those equal to a value, or those that pass a test
pub data Pulled : Type 0 where
  equal_to : Tree → Pulled
  passing : Test → Pulled

-- what an edit does at its path
pub data Operation : Type 0 where
  -- `$set`
  assign : Tree → Operation
  -- `$unset`
  take_away : Operation
  -- `$inc`
  increase : Number → Operation
  -- `$push`, with the values to append
  append : List Tree → Operation
  -- `$pull`
  pull : Pulled → Operation

-- a path, as its components, and what is done there
abbrev pub Edit : Type 0
Edit = List (List ℕ) × Operation

-- a parsed update: a replacement, or edits
pub data Update : Type 0 where
  -- the new fields, which replace all but `_id`
  replacement : List Field → Update
  -- the edits in the order of their paths
  operators : List Edit → Update
