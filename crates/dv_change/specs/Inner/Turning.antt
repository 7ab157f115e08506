-- Turns: operators that receive changes alone.
use Rattle.std.specs.Prelude.{List}
use Rattle.dv_change.specs.Changes.{Positioned}
use Rattle.dv_change.specs.Inner.Changes.{HaveOneLength, IsPositioned}
use Rattle.dv_change.specs.Work.{Transform}

-- how the values of a type are operators: the stage of each, with the lists that it reads by `$lookup`; the rows that it has taken
-- in; and that it isn't spent
pub record Turning (T : Type 0) : Type 1 where
  pub form : T → Transform
  pub left : T → Positioned
  pub sound : T → Type 0

-- whatever the lists are: if the stage's rows are at exact positions, in their order, so is its result
abbrev pub KeepsPositions : Transform → Type 0
KeepsPositions form = (named : List Positioned) (rows : Positioned) → IsPositioned rows → IsPositioned (form.makes named rows)

-- and if they are at positions of one length, so is its result
abbrev pub KeepsOneLength : Transform → Type 0
KeepsOneLength form = (named : List Positioned) (rows : Positioned) → IsPositioned rows → HaveOneLength rows → HaveOneLength (form.makes named rows)
