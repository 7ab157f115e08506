-- What a view keeps, and which inputs it may have taken in.
use Rattle.std.specs.Prelude.{◌≡◌, ◌+◌, ℕ, List, [], ◌∷◌, length}
use Rattle.dv_change.specs.Inner.ToldRows.{HaveMade}
use Rattle.dv_pipe.specs.declared.stage.Stage.{Stage}
use Rattle.dv_views.specs.Inner.Operating.{HoldsStage, stage_makes}
use Rattle.dv_views.specs.Placed.{forms, lists_in}
use Rattle.dv_views.specs.Views.{Kept, Inputs}

-- how many lists stages read by `$lookup`
abbrev pub lists_of_all : List Stage → ℕ
lists_of_all [] = 0
lists_of_all (s ∷ ss) = lists_in s + lists_of_all ss

-- what is kept are the stages, which have taken in these inputs, and the rows that they return; there are as many lists as the
-- stages read by `$lookup`
pub record HasMade (stages : List Stage) (kept : Kept) (t : Inputs) : Type 0 where
  pub made : HaveMade stage_makes HoldsStage kept.operators kept.rows (forms stages t.named) t.left
  pub count : length t.named ≡ lists_of_all stages
