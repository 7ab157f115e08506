-- Of `Tree`, what only bodies and proofs need.
use Rattle.std.specs.Prelude.{ℕ, suc, ◌+◌}
use Rattle.dv_value.specs.Tree.{Tree, Fields, Elements, int32, int64, string, document, array, boolean, binary, object_id, date, null, timestamp, min_key, max_key, no_fields, field, no_elements, element}

-- how many values there are in a value, itself among them
abbrev mutual
  pub weight : Tree → ℕ
  weight (int32 n) = 1
  weight (int64 n) = 1
  weight (string s) = 1
  weight (document fs) = suc (fields_weight fs)
  weight (array vs) = suc (elements_weight vs)
  weight (boolean b) = 1
  weight (binary subtype bytes) = 1
  weight (object_id id) = 1
  weight (date n) = 1
  weight null = 1
  weight (timestamp n) = 1
  weight min_key = 1
  weight max_key = 1

  pub fields_weight : Fields → ℕ
  fields_weight no_fields = 0
  fields_weight (field name value fs) = weight value + fields_weight fs

  pub elements_weight : Elements → ℕ
  elements_weight no_elements = 0
  elements_weight (element v vs) = weight v + elements_weight vs
