-- Lists in a direction.
use Rattle.std.specs.Prelude.{List, reverse}
use Rattle.dv_path.specs.declared.direction.Direction.{Direction}
use Rattle.dv_path.specs.declared.direction.Direction.TheVariants.{Ascending, Descending}

-- a list that ascends, in a direction
abbrev pub in_direction : {X : Type 0} → Direction → List X → List X
in_direction Ascending xs = xs
in_direction Descending xs = reverse xs
