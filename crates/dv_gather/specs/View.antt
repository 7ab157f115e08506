-- What rows in memory represent where they are behind references.
use Rattle.std.specs.Prelude.{List, map}
use denote.Ref.{Bor}
use Rattle.dv_row.specs.Row.{Row}

-- the rows behind references
abbrev pub referred : List (Bor Row) → List Row
referred = map (λ r. r.now)
