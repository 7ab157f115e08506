-- The value from which a key in memory is made.
use Rattle.std.specs.Prelude.{Option, None, Some, take}
use Rattle.dv_value.specs.Tree.{Tree, int64, string, document, boolean, object_id, date, null, timestamp, min_key, max_key, fields_of}
use Rattle.dv_value.specs.View.{tree}
use Rattle.dv_order.specs.Key.{first_value}
use Rattle.dv_order.specs.declared.small.Small as smalls
use Rattle.dv_order.specs.declared.small.Small.TheVariants as small
use Rattle.dv_order.specs.declared.source.KeySource as sources
use Rattle.dv_order.specs.declared.source.KeySource.TheVariants.{NoElement, Small, Short, Middle, Long, Document, Shared, First}

-- the value that takes few bytes
abbrev pub small_value : smalls.Small → Tree
small_value small.MinKey = min_key
small_value small.Null = null
small_value (small.Integer n) = int64 n
small_value (small.ObjectId id) = object_id id
small_value (small.Bool b) = boolean b
small_value (small.Date n) = date n
small_value (small.Timestamp n) = timestamp n
small_value small.MaxKey = max_key

-- the value from which a key is made; none for the key of no element
abbrev pub source_value : sources.KeySource → Option Tree
source_value NoElement = None
source_value (Small s) = Some (small_value s)
source_value (Short len bytes) = Some (string (take len bytes))
source_value (Middle len bytes) = Some (string (take len bytes.value))
source_value (Long len bytes) = Some (string (take len bytes.value))
source_value (Document d) = Some (document (fields_of d))
source_value (Shared v) = Some (tree v.value)
source_value (First d) = first_value d
