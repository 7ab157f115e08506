-- What a document in memory stores about its encoding.
use Rattle.std.specs.Prelude.{◌≡◌, ℕ, ◌≤◌, List, length}
use Rattle.dv_value.specs.Tree.{Field, document, fields_of}
use Rattle.dv_value.specs.Spelling.{spelling, levels, IsValue}

-- the size is the length of the document's encoding, at most 2,147,483,647 bytes, and the document is valid, with at most 100 nesting
-- levels
pub record IsMeasure (size : ℕ) (d : List Field) : Type 0 where
  pub whole : size ≡ length (spelling d)
  pub within : size ≤ 2147483647
  pub valid : IsValue (document (fields_of d))
  pub depth : levels (document (fields_of d)) ≤ 100
