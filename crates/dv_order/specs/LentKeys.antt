-- What a borrowed key represents.
use Rattle.dv_value.specs.Tree.{Tree, string, document, fields_of}
use Rattle.dv_order.specs.Order.{canon}
use Rattle.dv_order.specs.Key.{KeyTree, value}
use Rattle.dv_order.specs.declared.lent.LentKey.{LentKey}
use Rattle.dv_order.specs.declared.lent.LentKey.TheVariants.{Text, Document}

-- the value that a borrowed key represents
abbrev pub lent_value : LentKey → Tree
lent_value (Text s) = string s.now
lent_value (Document d) = document (fields_of d.now)

-- the key of that value
abbrev pub lent_key : LentKey → KeyTree
lent_key k = value (canon (lent_value k))
