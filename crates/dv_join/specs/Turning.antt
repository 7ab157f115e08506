-- The operator for `$lookup`: its inputs.
use Rattle.std.specs.Prelude.{List, [], ◌∷◌}
use Rattle.dv_change.specs.Changes.{Positioned}

-- the first of the lists; no rows if there is none
abbrev pub first_input : List Positioned → Positioned
first_input [] = []
first_input (rows ∷ others) = rows
