-- Ways that paths lead, in an order in which those through one name are neighbours.
use Rattle.std.specs.Prelude.{◌≡◌, ◌≤◌, ◌<◌, ℕ, Bool, false, List, [], ◌∷◌, length, drop, slice_index_or}
use Rattle.std.specs.List.{list_any}
use Rattle.std.specs.declared.cmp.Ordering.{Ordering}
use Rattle.std.specs.declared.cmp.Ordering.TheVariants.{Less}
use Rattle.std.specs.Ordering.{nat_cmp, is_lt}
use Rattle.std.specs.Cmp.Lexicographic.{slice_cmp}

-- names by their bytes
abbrev pub name_order : List ℕ → List ℕ → Ordering
name_order = slice_cmp nat_cmp

-- name by name: the first two that differ decide; otherwise the shorter way comes first
abbrev pub way_order : List (List ℕ) → List (List ℕ) → Ordering
way_order = slice_cmp name_order

-- how a way compares with those through a name; a way that ends comes before each of these
abbrev pub way_beside : List ℕ → List (List ℕ) → Ordering
way_beside name [] = Less
way_beside name (n ∷ ns) = name_order n name

-- what follows the first components of the paths is in ascending order
pub record Ascend (depth : ℕ) (paths : List (List (List ℕ))) : Type 0 where
  pub far : (i j : ℕ) (d : List (List ℕ)) → i ≤ j → j < length paths → is_lt (way_order (drop depth (slice_index_or paths j d)) (drop depth (slice_index_or paths i d))) ≡ false

-- each test that one of the ways passes is passed by one of the others, and the reverse
abbrev pub AreSame : List (List (List ℕ)) → List (List (List ℕ)) → Type 0
AreSame ways others = (test : List (List ℕ) → Bool) → list_any test ways ≡ list_any test others

-- a copy of paths in order
pub record IsInOrder (paths ascending : List (List (List ℕ))) : Type 0 where
  pub ascends : Ascend 0 ascending
  pub same : AreSame ascending paths
