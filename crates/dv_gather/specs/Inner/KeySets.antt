-- Keys of values: definitions for bodies.
use Rattle.std.specs.Prelude.{◌≡◌, Bool, List}
use Rattle.std.specs.List.{list_any}
use Rattle.std.specs.Ordering.{is_eq}
use Rattle.dv_value.specs.Tree.{Tree}
use Rattle.dv_order.specs.Key.{KeyTree, key_order}
use Rattle.dv_path.specs.LeafKeys.{is_some_key}

-- keys are those of values: a key equals one of them exactly if it is the key of one of the values
abbrev pub AreKeysOf : List KeyTree → List Tree → Type 0
AreKeysOf ks vs = (k : KeyTree) → list_any (λ l. is_eq (key_order k l)) ks ≡ is_some_key k vs

-- whether one of these keys is that of one of these values
abbrev pub any_key : List KeyTree → List Tree → Bool
any_key ks vs = list_any (λ k. is_some_key k vs) ks
