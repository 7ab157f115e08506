-- What a value in memory represents.
use Rattle.std.specs.Prelude.{List, [], Option, None, Some}
use Rattle.dv_value.specs.declared.value.Content.{Content}
use Rattle.dv_value.specs.declared.value.Content.TheVariants.{Empty, Own, Over}
use Rattle.dv_value.specs.declared.value.Cover.{Cover}
use Rattle.dv_value.specs.declared.value.Cover.TheVariants.{Absent, Shared}
use Rattle.dv_value.specs.declared.value.Value.{Value}
use Rattle.dv_value.specs.declared.value.Value.TheVariants.{Int32, Int64, Text, Doc, Array, Binary, ObjectId, Bool, Date, Null, Timestamp, MinKey, MaxKey}
use Rattle.dv_value.specs.Tree.{Tree, int32, int64, string, document, array, boolean, binary, object_id, date, null, timestamp, min_key, max_key, Field, fields_of, elements_of}

-- the BSON value that a value in memory represents
abbrev pub tree : Value → Tree
tree (Int32 n) = int32 n
tree (Int64 n) = int64 n
tree (Text s) = string s
tree (Doc fs) = document (fields_of fs)
tree (Array vs) = array (elements_of vs)
tree (Binary subtype bytes) = binary subtype bytes
tree (ObjectId id) = object_id id
tree (Bool b) = boolean b
tree (Date n) = date n
tree Null = null
tree (Timestamp n) = timestamp n
tree MinKey = min_key
tree MaxKey = max_key

-- the shared value that takes the place of a field's own, if any
abbrev pub covering : Cover → Option Tree
covering Absent = None
covering (Shared text) = Some text

-- the fields that a document has of its own
abbrev pub held : Content → List Field
held Empty = []
held (Own fields) = fields.value
held (Over fields) = fields.value
