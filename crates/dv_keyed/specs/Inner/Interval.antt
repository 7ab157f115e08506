-- The keys that are in all bounds that a filter sets under a path.
use Rattle.std.specs.Prelude.{ℕ, ◌&&◌, Bool, true, List, if◌then◌else◌}
use Rattle.std.specs.BTreeMap.Range.{range_contains}
use Rattle.dv_match.specs.Filter.{Member, all_of, at_path, Members, no_members, more_members, Filters, no_filters, more_filters, Condition, in_range, Conditions, no_conditions, more_conditions}
use Rattle.dv_order.specs.Key.{KeyTree, key_order}
use Rattle.dv_keyed.specs.Choice.{same_path}
use Rattle.dv_keyed.specs.Inner.Within.{covers}
use Rattle.dv_keyed.specs.declared.interval.Interval.{Interval}

-- whether a key is in the range that a condition sets; other conditions set none
abbrev pub is_in_bounds : KeyTree → Condition → Bool
is_in_bounds k (in_range r v) = covers (in_range r v) k
is_in_bounds k c = true

abbrev pub is_in_each : KeyTree → Conditions → Bool
is_in_each k no_conditions = true
is_in_each k (more_conditions c cs) = is_in_bounds k c && is_in_each k cs

-- the same for the conditions of the top conjunction under a path
unfoldable mutual
  pub is_in_all : KeyTree → List (List ℕ) → Members → Bool
  is_in_all k path no_members = true
  is_in_all k path (more_members m ms) = is_in_member k path m && is_in_all k path ms

  pub is_in_member : KeyTree → List (List ℕ) → Member → Bool
  is_in_member k path (all_of fs) = is_in_filters k path fs
  is_in_member k path (at_path p cs) = if same_path p path then is_in_each k cs else true
  is_in_member k path m = true

  pub is_in_filters : KeyTree → List (List ℕ) → Filters → Bool
  is_in_filters k path no_filters = true
  is_in_filters k path (more_filters f fs) = is_in_all k path f && is_in_filters k path fs

-- whether a key is between two ends
abbrev pub is_between : Interval → KeyTree → Bool
is_between ends k = range_contains key_order ends.low ends.high k
