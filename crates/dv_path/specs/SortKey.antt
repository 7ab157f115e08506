-- The key by which a path sorts a document (MongoDB manual, "Comparison/Sort Order").
use Rattle.std.specs.Prelude.{ℕ, Bool, List, [], ◌∷◌, map, Option, Some, None, if◌then◌else◌}
use Rattle.std.specs.List.{flat_map, best_of}
use Rattle.std.specs.Ordering.{is_lt}
use Rattle.dv_value.specs.Tree.{Tree, array, null, Field, list_of_elements}
use Rattle.dv_order.specs.Key.{KeyTree, key_order, key_at}
use Rattle.dv_path.specs.declared.direction.Direction.{Direction}
use Rattle.dv_path.specs.declared.direction.Direction.TheVariants.{Ascending, Descending}
use Rattle.dv_candidates.specs.Candidates.{Candidate, whole}

-- the keys of an array: those of its elements; for an empty array the key of no element
abbrev pub array_keys : List Tree → List KeyTree
array_keys [] = key_at None ∷ []
array_keys (v ∷ vs) = map (λ w. key_at (Some w)) (v ∷ vs)

-- the keys of a candidate: for an array those of its elements, for Missing that of null, otherwise its own
abbrev pub sort_keys_of : Candidate → List KeyTree
sort_keys_of None = key_at (Some null) ∷ []
sort_keys_of (Some (array vs)) = array_keys (list_of_elements vs)
sort_keys_of (Some v) = key_at (Some v) ∷ []

-- whether k comes before l in this direction
abbrev pub stands_first : Direction → KeyTree → KeyTree → Bool
stands_first Ascending k l = is_lt (key_order k l)
stands_first Descending k l = is_lt (key_order l k)

-- the key that comes first in this direction; the key of null if there are none
abbrev pub earliest : Direction → List KeyTree → KeyTree
earliest direction [] = key_at (Some null)
earliest direction (k ∷ ks) = best_of (stands_first direction) k ks

-- the key by which a path sorts a document: the least of its keys if ascending, the greatest if descending
unfoldable pub sort_key : List Field → List (List ℕ) → Direction → KeyTree
sort_key fields path direction = earliest direction (flat_map sort_keys_of (whole fields path))

-- the earlier of two keys in this direction; the second if there is no first
abbrev pub earlier_with : Direction → Option KeyTree → KeyTree → Option KeyTree
earlier_with direction None k = Some k
earlier_with direction (Some j) k = Some (if stands_first direction k j then k else j)
