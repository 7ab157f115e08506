-- What the parts of a scan return.
use Rattle.std.specs.Prelude.{◌≡◌, ◌<◌, ◌+◌, ℕ, List, Option, Some, None, filter, take, ⊤}
use Rattle.dv_value.specs.Tree.{Field}
use Rattle.dv_coll.specs.Collection.{IsAscending}
use Rattle.dv_path.specs.SortSpec.{Part}
use Rattle.dv_sort.specs.Sorting.{stable}
use Rattle.dv_keyed.specs.declared.before.Bar.{Bar}
use Rattle.dv_index.specs.Inner.Ahead.{is_ahead}

-- whether this many rows of a sort are enough, if `skip` are left out and `limit` are wanted; a limit of 0 stands for all
abbrev pub IsEnough : ℕ → ℕ → Option ℕ → Type 0
IsEnough skip limit None = ⊤
IsEnough skip limit (Some most) = (0 < limit) × (most ≡ skip + limit)

-- these rows are the first ones, in the order of a sort, of any rows in the order of their `_id`s that have the same rows before a
-- bar as those that were found
abbrev pub AreFirstAhead : Part → Bar → List (List Field) → List Part → ℕ → List (List Field) → Type 0
AreFirstAhead by bar found sort most first = (rows : List (List Field)) → IsAscending rows → filter (is_ahead by bar) found ≡ filter (is_ahead by bar) rows → first ≡ take most (stable sort rows)
