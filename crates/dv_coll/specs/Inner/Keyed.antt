-- Documents, each kept under the key of its `_id`.
use Rattle.std.specs.Prelude.{◌≡◌, ℕ, List, map, Option, None, Some}
use Rattle.std.specs.List.{AllByRecursion}
use Rattle.std.specs.List.Sorted.{IsStrictlySortedBy}
use Rattle.std.specs.BTreeMap.{is_at}
use Rattle.std.specs.Map.{keys_of, values_of, set_value}
use Rattle.dv_value.specs.FieldChange.{with_field_changed}
use Rattle.dv_value.specs.Tree.{Field}
use Rattle.dv_value.specs.declared.field_change.FieldChange.{FieldChange}
use Rattle.dv_order.specs.Key.{KeyTree, key_order}
use Rattle.dv_coll.specs.Collection.{HasId, id_key}

-- the keys are those of the documents, and ascend
pub record IsKeyed (entries : List (KeyTree × List Field)) : Type 0 where
  pub keys : keys_of entries ≡ map id_key (values_of entries)
  pub ascending : IsStrictlySortedBy key_order (keys_of entries)
  pub identified : AllByRecursion HasId (values_of entries)

-- the entries, with the field under the name changed in the document that was found under the key
abbrev pub changed_under : Option (List Field) → KeyTree → List ℕ → FieldChange → List (KeyTree × List Field) → List (KeyTree × List Field)
changed_under None k name c es = es
changed_under (Some d) k name c es = set_value (is_at (key_order k)) es (with_field_changed name c d)
