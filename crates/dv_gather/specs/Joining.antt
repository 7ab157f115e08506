-- Which documents `$lookup` finds for a document (MongoDB manual, "$lookup (aggregation)"): those that have a value at the foreign path
-- which equals a value that the document has at the local path. Missing counts as null on both sides. An array counts as its elements
-- on the local side, and as itself and its elements on the foreign side. That an empty array counts as nothing on the local side is
-- this server's own.
use Rattle.std.specs.Prelude.{ℕ, Bool, List, [], ◌∷◌, Some, filter}
use Rattle.std.specs.List.{flat_map, list_any}
use Rattle.std.specs.Ordering.{is_eq}
use Rattle.dv_value.specs.Tree.{Tree, array, document, Field, fields_of, list_of_elements}
use Rattle.dv_order.specs.Order.{order}
use Rattle.dv_candidates.specs.Candidates.{Candidate, or_null, whole}
use Rattle.dv_path.specs.LeafKeys.{leaf_values}

-- the values that a candidate counts as on the local side: an array counts as its elements
abbrev pub local_values : Candidate → List Tree
local_values (Some (array vs)) = list_of_elements vs
local_values c = or_null c ∷ []

-- the values of a document at the local path
unfoldable pub joined_by : List (List ℕ) → List Field → List Tree
joined_by path d = flat_map local_values (whole d path)

-- whether the value equals one of these
abbrev pub is_equal_to_one : List Tree → Tree → Bool
is_equal_to_one ws v = list_any (λ w. is_eq (order v w)) ws

-- whether the document f is a match of d: a leaf of f at the foreign path equals a value of d at the local path
abbrev pub is_joined : List (List ℕ) → List (List ℕ) → List Field → List Field → Bool
is_joined local foreign d f = list_any (is_equal_to_one (leaf_values foreign f)) (joined_by local d)

-- the matches of a document, in their order
abbrev pub joined_with : List (List ℕ) → List (List ℕ) → List (List Field) → List Field → List (List Field)
joined_with local foreign others d = filter (is_joined local foreign d) others

-- a document as a value
abbrev pub as_value : List Field → Tree
as_value d = document (fields_of d)
