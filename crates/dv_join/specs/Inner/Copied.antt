-- Copies of rows that differ from these by what they are joined with: definitions that bodies use.
use Rattle.std.specs.Prelude.{◌≡◌, List, map}
use Rattle.dv_value.specs.Tree.{Field, Tree}
use Rattle.dv_gather.specs.declared.lookup.Lookup.{Lookup}
use Rattle.dv_gather.specs.Lookups.{set_field}
use Rattle.dv_change.specs.Changes.{Positioned}

abbrev pub Row : Type 0
Row = List Field

-- the result of `made` for each row, at the position of the row
abbrev pub made_of : (Row → Row) → Positioned → Positioned
made_of made rows = map (λ e. (e.0, made e.1)) rows

-- the result of `made` for a row differs from the row only by the value under the target's name
abbrev pub DiffersByTarget : Lookup → (Row → Row) → Type 0
DiffersByTarget l made = (v : Tree) (d : Row) → set_field l.target v (made d) ≡ set_field l.target v d
