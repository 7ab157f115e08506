-- The keys that a document has under a path (MongoDB manual, "Multikey Indexes"): the keys of the values that the path leads to, and of
-- the elements of those that are arrays. That Missing always has the key of null is this server's own.
use Rattle.std.specs.Prelude.{ℕ, Bool, List, map}
use Rattle.std.specs.List.{list_any}
use Rattle.std.specs.Ordering.{is_eq}
use Rattle.dv_value.specs.Tree.{Tree, Field}
use Rattle.dv_order.specs.Order.{canon}
use Rattle.dv_order.specs.Key.{KeyTree, value, key_order}
use Rattle.dv_candidates.specs.Candidates.{leaves, or_null}

-- whether k is the key of the value
abbrev pub is_key_of : KeyTree → Tree → Bool
is_key_of k v = is_eq (key_order k (value (canon v)))

-- whether k is the key of one of the values
abbrev pub is_some_key : KeyTree → List Tree → Bool
is_some_key k vs = list_any (is_key_of k) vs

-- the leaves of a path in a document, with null for Missing
unfoldable pub leaf_values : List (List ℕ) → List Field → List Tree
leaf_values path d = map or_null (leaves d path)

-- whether k is the key of a leaf of the path in the document
unfoldable pub is_leaf_key : KeyTree → List (List ℕ) → List Field → Bool
is_leaf_key k path d = is_some_key k (leaf_values path d)
