-- A bar after the first rows of a sort.
use Rattle.std.specs.Prelude.{◌≡◌, ◌≤◌, ℕ, Bool, false, not, List, length, take, Option, None, Some}
use Rattle.std.specs.List.{AllByRecursion}
use Rattle.std.specs.Ordering.{is_lt}
use Rattle.dv_value.specs.Tree.{Field}
use Rattle.dv_order.specs.Key.{KeyTree}
use Rattle.dv_path.specs.SortSpec.{Part}
use Rattle.dv_sort.specs.Inner.Keys.{row_keys, keys_order}
use Rattle.dv_sort.specs.Sorting.{stable}

-- whether there is a bar, and its keys come before these or are equal to them
abbrev pub is_behind : List Part → List KeyTree → Option (List KeyTree) → Bool
is_behind parts keys None = false
is_behind parts keys (Some bar) = not (is_lt (keys_order parts keys bar))

-- there are as many rows as are wanted, and the bar comes before none of the first ones
abbrev pub AreBefore : List Part → ℕ → List (List Field) → List KeyTree → Type 0
AreBefore parts most rows bar = (most ≤ length rows) × AllByRecursion (λ row. is_lt (keys_order parts bar (row_keys parts row)) ≡ false) (take most (stable parts rows))

-- if all rows are wanted, there is no bar
abbrev pub IsBar : List Part → Option ℕ → List (List Field) → List KeyTree → Type 0
IsBar parts None rows bar = ⊥
IsBar parts (Some most) rows bar = AreBefore parts most rows bar
