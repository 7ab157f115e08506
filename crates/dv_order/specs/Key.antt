-- Keys: what an index or a sort stores of a value.
use Rattle.std.specs.Prelude.{ℕ, List, [], ◌∷◌, Option, None, Some}
use Rattle.std.specs.declared.cmp.Ordering.{Ordering}
use Rattle.std.specs.Ordering.{nat_cmp}
use Rattle.dv_value.specs.Tree.{Tree, Field}
use Rattle.dv_order.specs.Order.{canon, class, order}

-- the key of a value, or the key of no element, which an empty array has in a sort
pub data KeyTree : Type 0 where
  no_element : KeyTree
  value : Tree → KeyTree

-- the rank of a key's class among the classes of values: no element comes between MinKey and null
abbrev pub key_class : KeyTree → ℕ
key_class no_element = 1
key_class (value v) = class v

-- the order of two keys: that of their values if both have one, or else by class
abbrev pub key_order : KeyTree → KeyTree → Ordering
key_order (value v) (value w) = order v w
key_order k l = nat_cmp (key_class k) (key_class l)

-- the key of a value, with the width of its integers ignored; no element if there is no value
abbrev pub key_at : Option Tree → KeyTree
key_at None = no_element
key_at (Some v) = value (canon v)

-- the value of a document's first field, if any
abbrev pub first_value : List Field → Option Tree
first_value [] = None
first_value (f ∷ fs) = Some f.1
