-- Documents that a path sorts before a bar, and the key under which an index has them.
use Rattle.std.specs.Prelude.{◌≡◌, ◌&&◌, ◌||◌, Bool, true, false, List, Option, None, Some}
use Rattle.std.specs.Ordering.{is_eq, is_lt}
use denote.Ref.{Bor}
use Rattle.dv_value.specs.Tree.{array, no_elements, null}
use Rattle.dv_order.specs.Order.{canon}
use Rattle.dv_order.specs.Key.{KeyTree, key_order, no_element, value}
use Rattle.dv_path.specs.SortKey.{stands_first}
use Rattle.dv_path.specs.declared.direction.Direction.{Direction}
use Rattle.dv_keyed.specs.declared.before.Bar.{Bar}
use Rattle.dv_keyed.specs.Inner.Keys.{refers_to}
use Rattle.dv_keyed.specs.Inner.Pairs.{IsOnlyKey, LeadFrom, Pair, has_pair}

-- whether there is an end, and an `_id`'s key is less than it
abbrev pub is_until : KeyTree → Option (Bor KeyTree) → Bool
is_until id None = false
is_until id (Some end) = is_lt (key_order id end.now)

-- whether a document that is sorted by a key and has this `_id`'s key is before a bar, in a direction
abbrev pub stands_ahead : Direction → Bar → KeyTree → KeyTree → Bool
stands_ahead direction bar k id = stands_first direction k bar.key.now || (is_eq (key_order k bar.key.now) && is_until id bar.until)

-- the leaf's key by which an index finds what is sorted by a key: an empty array has a leaf, the array itself, but no element
abbrev pub leaf_sorted_by : KeyTree → KeyTree
leaf_sorted_by no_element = value (canon (array no_elements))
leaf_sorted_by (value v) = value v

-- the key of null
abbrev pub null_key : KeyTree
null_key = value (canon null)

-- the references lead to each `_id` that has a leaf sorted before the bar, if the leaf's key passes a test
abbrev pub HaveAllAhead : Direction → Bar → (KeyTree → Bool) → List Pair → List (Bor KeyTree) → Type 0
HaveAllAhead direction bar test ps ids =
    (k i : KeyTree) → stands_ahead direction bar k i ≡ true → test (leaf_sorted_by k) ≡ true → LeadFrom (leaf_sorted_by k) i ps ids

-- the same for the `_id`s whose only key passes the test, and for all that have several keys
abbrev pub HaveTriedAhead : Direction → Bar → (KeyTree → Bool) → List Pair → List (Bor KeyTree) → Type 0
HaveTriedAhead direction bar alone ps ids =
    (k i : KeyTree) → stands_ahead direction bar k i ≡ true → has_pair (leaf_sorted_by k) i ps ≡ true → (IsOnlyKey (leaf_sorted_by k) i ps → alone (leaf_sorted_by k) ≡ true) → refers_to ids i ≡ true
