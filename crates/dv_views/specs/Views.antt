-- Views with the rows that they store, in creation order.
use Rattle.std.specs.Prelude.{ℕ, List, map}
use Rattle.dv_change.specs.Changes.{Positioned}
use Rattle.dv_pipe.specs.declared.stage.Stage.{Stage}
use Rattle.dv_views.specs.Placed.{ListPlaces, lookups_of}
use Rattle.dv_views.specs.declared.stage_operator.StageOperator.{StageOperator}

-- the inputs that a view has taken in: the rows of its source, and the rows of each list that its stages read, in their order
pub record Inputs : Type 0 where
  pub left : Positioned
  pub named : List Positioned

-- what a live view stores: its stages, each with what it needs of the inputs that it has taken in, the view's rows at their positions, and
-- the ticks of its changes
pub record Kept : Type 0 where
  pub operators : List StageOperator
  pub rows : Positioned
  pub ticks : ℕ

-- whether a view is live and stores its rows, or is stale and stores nothing, since memory ran out for it or for a view that it reads
pub data ViewMark : Type 0 where
  live : Kept → ViewMark
  stale : ViewMark

-- a view's name, its source, the stages of its pipeline, and whether it is live, with what it stores
pub record View : Type 0 where
  pub name : List ℕ
  pub source : List ℕ
  pub stages : List Stage
  pub mark : ViewMark

-- the inputs of a pipeline over a source, from the rows at positions of each namespace
abbrev pub inputs_from : List Stage → List ℕ → ListPlaces → Inputs
inputs_from stages source places = record { left = places source; named = map places (lookups_of stages source) }
