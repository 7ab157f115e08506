-- The places of documents that are kept under the keys of their `_id`s.
use Rattle.std.proofs.Common.{◌≡◌, List, [], ◌∷◌, map, None, refl, arith}
use Rattle.std.specs.List.{AllByRecursion}
use Rattle.std.specs.Map.{keys_of, values_of, lookup}
use Rattle.std.specs.BTreeMap.{is_at, insert_entry}
use Rattle.std.specs.declared.cmp.Ordering.TheVariants.{Less}
use Rattle.dv_value.specs.Tree.{Field}
use Rattle.dv_order.specs.Key.{KeyTree, key_order}
use Rattle.dv_coll.specs.Collection.{HasId, id_key, found, inserted}

abbrev pub Entries : Type 0
Entries = List (KeyTree × List Field)

-- the documents come after the key
abbrev pub Follow : KeyTree → List (List Field) → Type 0
Follow k ds = AllByRecursion (λ l. key_order k l ≡ Less) (map id_key ds)

pub lookup-found : (k : KeyTree) (es : Entries) → keys_of es ≡ map id_key (values_of es) → lookup (is_at (key_order k)) es ≡ found k (values_of es)
lookup-found k [] e = refl
lookup-found k (f ∷ es) e = grind (arith, lookup-found k es)

pub values-insert_entry : (d : List Field) (es : Entries) → keys_of es ≡ map id_key (values_of es) → found (id_key d) (values_of es) ≡ None → values_of (insert_entry key_order es (id_key d) d) ≡ inserted d (values_of es)
values-insert_entry d [] e absent = refl
values-insert_entry d (f ∷ es) e absent = grind (arith, values-insert_entry d es)

pub keys-insert_entry : (d : List Field) (es : Entries) → keys_of es ≡ map id_key (values_of es) → found (id_key d) (values_of es) ≡ None → keys_of (insert_entry key_order es (id_key d) d) ≡ map id_key (values_of (insert_entry key_order es (id_key d) d))
keys-insert_entry d [] e absent = refl
keys-insert_entry d (f ∷ es) e absent = grind (arith, keys-insert_entry d es)

pub identified-inserted : (d : List Field) (ds : List (List Field)) → HasId d → AllByRecursion HasId ds → AllByRecursion HasId (inserted d ds)
identified-inserted d [] h a = (h, a)
identified-inserted d (e ∷ ds) h a = grind (arith, identified-inserted d ds)

pub ruleset places = (lookup-found, values-insert_entry, keys-insert_entry, identified-inserted)
