-- Whether two values have the same encoding: the same type and the same content (BSON 1.1). A law says that they are then equal.
use Rattle.std.specs.Prelude.{◌==◌, ◌&&◌, not, Bool, true, false, Option, Some, None}
use Rattle.std.specs.Ordering.{int_eq}
use Rattle.std.specs.Str.{bytes_eq}
use Rattle.dv_value.specs.Tree.{Tree, int32, int64, string, document, array, boolean, binary, object_id, date, null, timestamp, min_key, max_key, Fields, no_fields, field, Elements, no_elements, element}

-- whether two booleans are equal
abbrev pub agree : Bool → Bool → Bool
agree true b = b
agree false b = not b

-- whether two values, documents or arrays have the same encoding: also the width of integers and the order of fields count
abbrev mutual
  pub is_same : Tree → Tree → Bool
  is_same (int32 m) (int32 n) = int_eq m n
  is_same (int64 m) (int64 n) = int_eq m n
  is_same (string s) (string t) = bytes_eq s t
  is_same (document fs) (document gs) = same_fields fs gs
  is_same (array vs) (array ws) = same_elements vs ws
  is_same (boolean a) (boolean b) = agree a b
  is_same (binary s bs) (binary t cs) = s == t && bytes_eq bs cs
  is_same (object_id a) (object_id b) = bytes_eq a b
  is_same (date m) (date n) = int_eq m n
  is_same null null = true
  is_same (timestamp m) (timestamp n) = m == n
  is_same min_key min_key = true
  is_same max_key max_key = true
  is_same v w = false

  pub same_fields : Fields → Fields → Bool
  same_fields no_fields no_fields = true
  same_fields (field a v fs) (field b w gs) = bytes_eq a b && is_same v w && same_fields fs gs
  same_fields fs gs = false

  pub same_elements : Elements → Elements → Bool
  same_elements no_elements no_elements = true
  same_elements (element v vs) (element w ws) = is_same v w && same_elements vs ws
  same_elements vs ws = false

-- whether both values are absent, or both are present and the same
abbrev pub both_same : Option Tree → Option Tree → Bool
both_same None None = true
both_same (Some v) (Some w) = is_same v w
both_same a b = false
