-- What only bodies and proofs need about `Changes`.
use Rattle.std.specs.Prelude.{◌≡◌, ℕ, List, [], ◌∷◌, Option, None, Some, length}
use Rattle.std.specs.List.{AllByRecursion}
use Rattle.std.specs.List.Sorted.{IsStrictlySortedBy}
use Rattle.std.specs.Map.{keys_of}
use Rattle.dv_value.specs.Tree.{Field}
use Rattle.dv_change.specs.declared.change.Change.{Change}
use Rattle.dv_change.specs.declared.change.Change.TheVariants.{Put, Gone}
use Rattle.dv_change.specs.Positions.{IsExact, PosTree, pos_order}
use Rattle.dv_change.specs.Changes.{Positioned}

-- the position of a change
abbrev pub position_changed : Change → PosTree
position_changed (Put pos row) = pos
position_changed (Gone pos) = pos

-- the row that is there afterwards, if any
abbrev pub row_in : Change → Option (List Field)
row_in (Put pos row) = Some row
row_in (Gone pos) = None

-- a list of only the row at a position, if there is one
abbrev pub alone : PosTree → Option (List Field) → Positioned
alone pos None = []
alone pos (Some row) = (pos, row) ∷ []

-- the positions strictly ascend, and each of their keys is the key of some value, or the one key that no value has
pub record IsPositioned {V : Type 0} (rows : List (PosTree × V)) : Type 0 where
  pub ascending : IsStrictlySortedBy pos_order (keys_of rows)
  pub exact : AllByRecursion IsExact (keys_of rows)

-- all positions have the same number of parts
abbrev pub HaveOneLength : Positioned → Type 0
HaveOneLength rows = (n : ℕ) × AllByRecursion (λ pos. length pos ≡ n) (keys_of rows)

-- each key of a change's position is the key of some value, or the one key that no value has
abbrev pub IsExactChange : Change → Type 0
IsExactChange (Put pos row) = IsExact pos
IsExactChange (Gone pos) = IsExact pos
