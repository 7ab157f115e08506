-- What a view is in memory, and what it stands for.
use Rattle.std.specs.Prelude.{ℕ, List, Option}
use Rattle.dv_change.specs.declared.taking.Taken as taking
use Rattle.dv_pipe.specs.declared.stage.Stage.{Stage}
use Rattle.dv_views.specs.Views.{ViewMark}

-- a view without its name, with its height and the changes that it passes on
pub record Body : Type 0 where
  pub source : List ℕ
  pub stages : List Stage
  pub height : ℕ
  pub mark : ViewMark
  pub told : Option (List taking.Taken)
