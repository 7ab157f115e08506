-- Worked examples: the keys of a document.
use Rattle.std.specs.Prelude.{ℕ, Bool, List}
use Rattle.dv_value.specs.Tree.{Tree, Field}
use Rattle.dv_order.specs.Order.{canon}
use Rattle.dv_order.specs.Key.{value}
use Rattle.dv_path.specs.LeafKeys.{is_leaf_key}

-- whether the document has the key of the value under the path
abbrev pub has_key_of : Tree → List (List ℕ) → List Field → Bool
has_key_of v path d = is_leaf_key (value (canon v)) path d
