-- Filters that are one condition, or a range with two ends, and `_id`s that have a key in bounds.
use Rattle.std.specs.Prelude.{◌≡◌, ◌↔◌, ◌&&◌, ℕ, Bool, true, false, List, Some, slice_get}
use Rattle.std.specs.Ordering.{is_eq}
use Rattle.dv_match.specs.Filter.{Condition, Member, at_path, Members, more_members, no_members, Conditions, more_conditions, no_conditions}
use Rattle.dv_match.specs.Match.{matches}
use Rattle.dv_value.specs.Tree.{Field}
use Rattle.dv_order.specs.Key.{KeyTree, key_order}
use Rattle.dv_path.specs.LeafKeys.{is_leaf_key}
use Rattle.dv_keyed.specs.Choice.{chosen, is_bound}
use Rattle.dv_keyed.specs.Within.{has_within}
use Rattle.dv_keyed.specs.Inner.Interval.{is_between}
use Rattle.dv_keyed.specs.Inner.Pairs.{Pair, has_pair}
use Rattle.dv_keyed.specs.Inner.Within.{covers}
use Rattle.dv_keyed.specs.declared.interval.Interval.{Interval}

-- whether there is one condition
abbrev pub is_alone : Conditions → Bool
is_alone (more_conditions c no_conditions) = true
is_alone cs = false

-- whether a member of a filter is one condition under one path
abbrev pub is_one_under : Member → Bool
is_one_under (at_path path cs) = is_alone cs
is_one_under m = false

-- whether a filter is one condition under one path
abbrev pub is_one_condition : Members → Bool
is_one_condition (more_members m no_members) = is_one_under m
is_one_condition ms = false

-- an `_id` has a key in the bounds
abbrev pub HasKeyWithin : Condition → KeyTree → List Pair → Type 0
HasKeyWithin c id ps = (k : KeyTree) × (covers c k ≡ true) × (has_pair k id ps ≡ true)

-- the keys between two ends are exactly those in the bounds of both conditions
abbrev pub HasKeysOfBoth : Interval → Condition → Condition → Type 0
HasKeysOfBoth ends c e = (k : KeyTree) → is_between ends k ≡ (covers c k && covers e k)

-- the conditions are two ranges, and the keys between two ends are exactly those in both
abbrev pub IsInBoth : Interval → Condition → Condition → Type 0
IsInBoth ends c e = (is_bound c ≡ true) × (is_bound e ≡ true) × HasKeysOfBoth ends c e

-- the conditions are two such ranges; the member of a filter, or the filter, has only these conditions, under the path
abbrev pub AreClosed : Interval → Conditions → Type 0
AreClosed ends (more_conditions c (more_conditions e no_conditions)) = IsInBoth ends c e
AreClosed ends cs = ⊥

abbrev pub IsClosedUnder : Interval → List (List ℕ) → Member → Type 0
IsClosedUnder ends path (at_path p cs) = (p ≡ path) × AreClosed ends cs
IsClosedUnder ends path m = ⊥

abbrev pub IsClosed : Interval → List (List ℕ) → Members → Type 0
IsClosed ends path (more_members m no_members) = IsClosedUnder ends path m
IsClosed ends path ms = ⊥

-- all keys of a document under a path are equal
abbrev pub HasOneKey : List (List ℕ) → List Field → Type 0
HasOneKey path d = (k l : KeyTree) → is_leaf_key k path d ≡ true → is_leaf_key l path d ≡ true → is_eq (key_order k l) ≡ true

-- a document matches exactly if one of its keys under the path is between two ends
abbrev pub MatchesBetween : Interval → List (List ℕ) → Members → List Field → Type 0
MatchesBetween ends path filter d = (matches filter d ≡ true) ↔ ((k : KeyTree) × (is_between ends k ≡ true) × (is_leaf_key k path d ≡ true))

-- an `_id` has a key between two ends
abbrev pub HasKeyBetween : Interval → KeyTree → List Pair → Type 0
HasKeyBetween ends id ps = (k : KeyTree) × (is_between ends k ≡ true) × (has_pair k id ps ≡ true)

-- there is an index at a place, and each document that matches has a leaf of its path in the bounds
abbrev pub IsAnswered : Members → List (List (List ℕ)) → ℕ → Condition → Type 0
IsAnswered filter paths place bounds =
    (path : List (List ℕ)) × (slice_get paths place ≡ Some path) × ((d : List Field) → matches filter d ≡ true → has_within bounds path d ≡ true)

-- if an index on the path is chosen, these bounds decide whether a document matches
abbrev pub IsDecided : Members → List (List (List ℕ)) → ℕ → Condition → List (List ℕ) → List Field → Type 0
IsDecided filter paths place bounds path d = chosen filter paths ≡ Some (place, bounds) → slice_get paths place ≡ Some path → matches filter d ≡ has_within bounds path d

-- each key of a document under a path is equal to this one
abbrev pub IsOnlyLeaf : KeyTree → List (List ℕ) → List Field → Type 0
IsOnlyLeaf k path d = (l : KeyTree) → is_leaf_key l path d ≡ true → is_eq (key_order l k) ≡ true
