-- Documents in either order.
use Rattle.std.specs.Prelude.{Bool, true, false, List, reverse}

-- a list as it is, or in reverse
abbrev pub walked : {X : Type 0} → Bool → List X → List X
walked true xs = reverse xs
walked false xs = xs
