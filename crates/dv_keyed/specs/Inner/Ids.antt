-- The set that keys stand for, however they are stored.
use Rattle.std.specs.Prelude.{Bool, false, not, ◌&&◌, List, [], ◌∷◌, Option, None, Some}
use Rattle.std.specs.Ordering.{is_eq}
use Rattle.dv_order.specs.Key.{KeyTree, key_order}
use Rattle.dv_keyed.specs.declared.ids.Kept.{Kept}
use Rattle.dv_keyed.specs.declared.ids.Kept.TheVariants.{One, Few, Many}
use Rattle.dv_keyed.specs.Inner.Keys.{has_key}

abbrev pub ids_kept : Kept → List KeyTree
ids_kept (One id) = id ∷ []
ids_kept (Few ids) = ids.items
ids_kept (Many ids) = ids.keys

-- whether there is a set, and an `_id` is in it
abbrev pub has_in : KeyTree → Option (List KeyTree) → Bool
has_in i None = false
has_in i (Some ids) = has_key i ids

-- whether an `_id` is another one, and is not in `gone`
abbrev pub is_another : KeyTree → Option (List KeyTree) → KeyTree → Bool
is_another id gone i = not (is_eq (key_order id i)) && not (has_in i gone)
