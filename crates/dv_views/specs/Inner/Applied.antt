-- What holds of views after changes of a collection's documents, which were passed on one after the other, each with the document
-- that was there before.
use Rattle.std.specs.Prelude.{ℕ, List, map}
use Rattle.dv_change.specs.declared.change.Change.{Change}
use Rattle.dv_change.specs.declared.taking.Taken as taking
use Rattle.dv_pipe.specs.Stages.{Lists}
use Rattle.dv_views.specs.Changed.{with_changed}
use Rattle.dv_views.specs.Flow.{shares}
use Rattle.dv_views.specs.Placed.{positioned}
use Rattle.dv_views.specs.Inner.Changed.{AreMade, AreToldOf}
use Rattle.dv_views.specs.Inner.Counted.{AreCounted}
use Rattle.dv_views.specs.Inner.Views.{AreRight, Views, view_form}

-- if the views were right over some lists, they are right over these lists with the changes
abbrev pub StaysRight : List ℕ → List Change → List taking.Taken → Views → Views → Type 0
StaysRight namespace changes all before after =
    (lists : Lists) → AreMade changes (lists namespace) → AreToldOf (positioned (lists namespace)) all → AreRight lists before → AreRight (with_changed namespace changes lists) after

-- if the views were right over some lists, each has counted its share of the work for these changes
abbrev pub CountsWork : List ℕ → List Change → List taking.Taken → Views → Views → Type 0
CountsWork namespace changes all before after =
    (lists : Lists) → AreMade changes (lists namespace) → AreToldOf (positioned (lists namespace)) all → AreRight lists before → AreCounted (shares namespace changes lists (map view_form before)) before after
