-- Values at positions in memory: the first one, and the others.
use Rattle.std.specs.Prelude.{◌≡◌, List, [], ◌∷◌, Option, None, Some}
use Rattle.dv_change.specs.Inner.Changes.{IsPositioned}
use Rattle.dv_change.specs.Positions.{PosTree}

module _ {V : Type 0} where
  -- all, the first one first
  abbrev pub in_all : Option (PosTree × V) → List (PosTree × V) → List (PosTree × V)
  in_all None others = others
  in_all (Some e) others = e ∷ others

  -- if there is no first one, there are no others; and all are in the order of their positions
  abbrev pub AreInOrder : Option (PosTree × V) → List (PosTree × V) → Type 0
  AreInOrder None others = others ≡ []
  AreInOrder (Some e) others = IsPositioned (e ∷ others)
