-- Words that the laws about updates use.
use Rattle.std.specs.Prelude.{◌<◌, Bool, List, length}
use Rattle.dv_value.specs.Spelling.{levels, spelling}
use Rattle.dv_value.specs.Tree.{Field, document, fields_of}
use Rattle.dv_order.specs.Same.{both_same}
use Rattle.dv_update.specs.Apply.{leading_id}

-- whether two documents begin with an `_id` in the same encoding, or neither begins with one
abbrev pub have_same_id : List Field → List Field → Bool
have_same_id d after = both_same (leading_id d) (leading_id after)

-- the document's encoding is longer than 16,777,216 bytes
abbrev pub ExceedsSize : List Field → Type 0
ExceedsSize d = 16777216 < length (spelling d)

-- the document has more than 100 nesting levels
abbrev pub ExceedsDepth : List Field → Type 0
ExceedsDepth d = 100 < levels (document (fields_of d))
