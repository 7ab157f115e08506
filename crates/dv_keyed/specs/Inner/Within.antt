-- Of `Within`, what only bodies and proofs need.
use Rattle.std.specs.Prelude.{◌&&◌, ◌==◌, Bool, false, List}
use Rattle.std.specs.declared.cmp.Ordering.{Ordering}
use Rattle.std.specs.Ordering.{is_gt, is_ge, is_lt, is_le}
use Rattle.dv_order.specs.Order.{canon, class}
use Rattle.dv_order.specs.Key.{KeyTree, value, key_class, key_order}
use Rattle.dv_path.specs.LeafKeys.{is_key_of, is_some_key}
use Rattle.dv_match.specs.declared.range.Range.{Range}
use Rattle.dv_match.specs.declared.range.Range.TheVariants.{Above, AtLeast, Below, AtMost}
use Rattle.dv_match.specs.Filter.{Condition, equal, among, in_range}

-- how a key has to compare to a bound
abbrev pub stands_so : Range → Ordering → Bool
stands_so Above o = is_gt o
stands_so AtLeast o = is_ge o
stands_so Below o = is_lt o
stands_so AtMost o = is_le o

-- whether a key is in the bounds that a condition sets
abbrev pub covers : Condition → KeyTree → Bool
covers (equal v) k = is_key_of k v
covers (among vs) k = is_some_key k vs
covers (in_range r v) k = key_class k == class v && stands_so r (key_order k (value (canon v)))
covers condition k = false
