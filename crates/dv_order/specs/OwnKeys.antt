-- Keys that exist: the keys of values, and the key of no element.
use Rattle.std.specs.Prelude.{◌≡◌, Option}
use Rattle.dv_value.specs.Tree.{Tree}
use Rattle.dv_order.specs.Key.{KeyTree, key_at}

-- the key of some value, or the key of no element
pub record IsOwn (k : KeyTree) : Type 0 where
  pub of : Option Tree
  pub is : k ≡ key_at of
