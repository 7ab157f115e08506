-- What only bodies and proofs need of `Keys`.
use Rattle.std.specs.Prelude.{◌≡◌, Bool, List, ◌∷◌, length, map, All}
use Rattle.std.specs.Ordering.{nat_cmp, is_lt, ordering_then}
use Rattle.std.specs.declared.cmp.Ordering.{Ordering}
use Rattle.dv_value.specs.Tree.{Field}
use Rattle.dv_order.specs.Key.{KeyTree, key_order}
use Rattle.dv_path.specs.declared.direction.Direction.{Direction}
use Rattle.dv_path.specs.declared.direction.Direction.TheVariants.{Ascending, Descending}
use Rattle.dv_path.specs.SortKey.{sort_key}
use Rattle.dv_path.specs.SortSpec.{Part}
use Rattle.dv_sort.specs.declared.row.Row.{Row}

-- the keys by which the parts of a sort order a document
abbrev pub row_keys : List Part → List Field → List KeyTree
row_keys parts d = map (λ p. sort_key d p.0 p.1) parts

-- the order of two keys in a direction
abbrev pub directed : Direction → KeyTree → KeyTree → Ordering
directed Ascending k l = key_order k l
directed Descending k l = key_order l k

-- the order of two lists of keys: the first part whose keys differ decides; lists of different lengths are not of one sort
abbrev pub keys_order : List Part → List KeyTree → List KeyTree → Ordering
keys_order (p ∷ parts) (k ∷ ks) (l ∷ ls) = ordering_then (directed p.1 k l) (keys_order parts ks ls)
keys_order parts ks ls = nat_cmp (length ks) (length ls)

abbrev pub keys_before : List Part → Row → Row → Bool
keys_before parts x y = is_lt (keys_order parts x.keys.items y.keys.items)

-- the keys are those of the document
pub record HasKeysOf (parts : List Part) (row : Row) : Type 0 where
  pub keys : row.keys.items ≡ row_keys parts row.document

abbrev pub AreKeyed : List Part → List Row → Type 0
AreKeyed parts rows = All (HasKeysOf parts) rows
