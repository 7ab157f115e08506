-- Documents gathered under keys, one after the other: definitions for bodies.
use Rattle.std.specs.Prelude.{List, [], ◌∷◌, ◌++◌}
use Rattle.std.specs.Option.{unwrap_or}
use Rattle.std.specs.Map.{lookup}
use Rattle.std.specs.BTreeMap.{insert_entry, is_at}
use Rattle.dv_value.specs.Tree.{Field}
use Rattle.dv_order.specs.Order.{canon}
use Rattle.dv_order.specs.Key.{KeyTree, value, key_order}
use Rattle.dv_gather.specs.Groups.{Keyed}

-- a key and documents
abbrev pub Entry : Type 0
Entry = KeyTree × List (List Field)

-- the documents under a key
abbrev pub listed : KeyTree → List Entry → List (List Field)
listed k es = unwrap_or (lookup (is_at (key_order k)) es) []

-- one more document, after the others under its key
abbrev pub group_put : KeyTree → List Field → List Entry → List Entry
group_put k d es = insert_entry key_order es k (listed k es ++ d ∷ [])

abbrev pub gathered : List Entry → List Keyed → List Entry
gathered es [] = es
gathered es (d ∷ ds) = gathered (group_put (value (canon d.0)) d.1 es) ds
