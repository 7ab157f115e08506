-- Keys in sets.
use Rattle.std.specs.Prelude.{Bool, List, map}
use Rattle.std.specs.List.{list_any}
use Rattle.std.specs.Ordering.{is_eq}
use denote.Ref.{Bor}
use Rattle.dv_order.specs.Key.{KeyTree, key_order}

-- whether a set, as its list of keys, has a key
abbrev pub has_key : KeyTree → List KeyTree → Bool
has_key k ks = list_any (λ l. is_eq (key_order k l)) ks

-- whether a list of references refers to a key
abbrev pub refers_to : List (Bor KeyTree) → KeyTree → Bool
refers_to ks k = has_key k (map (λ l. l.now) ks)
