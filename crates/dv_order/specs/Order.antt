-- The order of BSON values, by which documents are sorted and indexes ordered: first by the class of their type, then by their content
-- within the class (MongoDB manual, "Comparison/Sort Order").
use Rattle.std.specs.Prelude.{◌≡◌, ℕ, length}
use Rattle.std.specs.declared.cmp.Ordering.{Ordering}
use Rattle.std.specs.declared.cmp.Ordering.TheVariants.{Less, Equal, Greater}
use Rattle.std.specs.Ordering.{ordering_then, nat_cmp, int_cmp, bool_cmp}
use Rattle.std.specs.Cmp.Lexicographic.{slice_cmp}
use Rattle.dv_value.specs.Tree.{Tree, int32, int64, string, document, array, boolean, binary, object_id, date, null, timestamp, min_key, max_key, Fields, no_fields, field, Elements, no_elements, element, Field}

-- the value with each int32 replaced by the same int64, at every level
abbrev mutual
  pub canon : Tree → Tree
  canon (int32 n) = int64 n
  canon (int64 n) = int64 n
  canon (string s) = string s
  canon (document fs) = document (fields_canon fs)
  canon (array vs) = array (elements_canon vs)
  canon (boolean b) = boolean b
  canon (binary subtype bytes) = binary subtype bytes
  canon (object_id id) = object_id id
  canon (date n) = date n
  canon null = null
  canon (timestamp n) = timestamp n
  canon min_key = min_key
  canon max_key = max_key

  pub fields_canon : Fields → Fields
  fields_canon no_fields = no_fields
  fields_canon (field name value fs) = field name (canon value) (fields_canon fs)

  pub elements_canon : Elements → Elements
  elements_canon no_elements = no_elements
  elements_canon (element v vs) = element (canon v) (elements_canon vs)

-- the rank of the class of a value's type: 0 MinKey, 1 no element (an empty array as a sort key), 2 null, 3 numbers, 4 strings, 5
-- documents, 6 arrays, 7 binary data, 8 ObjectId, 9 booleans, 10 UTC datetimes, 11 timestamps, 12 MaxKey
abbrev pub class : Tree → ℕ
class min_key = 0
class null = 2
class (int32 n) = 3
class (int64 n) = 3
class (string s) = 4
class (document fs) = 5
class (array vs) = 6
class (binary subtype bytes) = 7
class (object_id id) = 8
class (boolean b) = 9
class (date n) = 10
class (timestamp n) = 11
class max_key = 12

-- the order of two values; of two documents, field by field in written order; of two arrays, element by element
abbrev mutual
  pub order : Tree → Tree → Ordering
  -- integers by value, whatever their width
  order (int32 m) (int32 n) = int_cmp m n
  order (int32 m) (int64 n) = int_cmp m n
  order (int64 m) (int32 n) = int_cmp m n
  order (int64 m) (int64 n) = int_cmp m n
  -- strings by their bytes
  order (string s) (string t) = slice_cmp nat_cmp s t
  order (document fs) (document gs) = fields_order fs gs
  order (array vs) (array ws) = elements_order vs ws
  -- binary data by length, then by subtype, then by bytes
  order (binary s bs) (binary t cs) = ordering_then (nat_cmp (length bs) (length cs)) (ordering_then (nat_cmp s t) (slice_cmp nat_cmp bs cs))
  order (object_id a) (object_id b) = slice_cmp nat_cmp a b
  -- false before true
  order (boolean a) (boolean b) = bool_cmp a b
  order (date m) (date n) = int_cmp m n
  order (timestamp m) (timestamp n) = nat_cmp m n
  -- these classes have one value each
  order null null = Equal
  order min_key min_key = Equal
  order max_key max_key = Equal
  -- Values of different classes are ordered by their classes. Two values of one class need a line of their own above: here they would
  -- be equal, and the law that equal values differ only in integer widths would fail.
  order v w = nat_cmp (class v) (class w)

  -- first the class of the value, then the bytes of the name, then the value, then the fields that follow
  pub fields_order : Fields → Fields → Ordering
  fields_order no_fields no_fields = Equal
  fields_order no_fields gs = Less
  fields_order fs no_fields = Greater
  fields_order (field a v fs) (field b w gs) =
      ordering_then (nat_cmp (class v) (class w)) (ordering_then (slice_cmp nat_cmp a b) (ordering_then (order v w) (fields_order fs gs)))

  -- first the element, then the elements that follow
  pub elements_order : Elements → Elements → Ordering
  elements_order no_elements no_elements = Equal
  elements_order no_elements ws = Less
  elements_order vs no_elements = Greater
  elements_order (element v vs) (element w ws) = ordering_then (order v w) (elements_order vs ws)

-- the order of two single fields: by the class of the value, then by the name, then by the value
abbrev pub field_order : Field → Field → Ordering
field_order f g = ordering_then (nat_cmp (class f.1) (class g.1)) (ordering_then (slice_cmp nat_cmp f.0 g.0) (order f.1 g.1))

-- the first value is less than the second
abbrev pub below : Tree → Tree → Type 0
below v w = order v w ≡ Less
