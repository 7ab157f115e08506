-- What is ensured of a stage of any kind if a call returns Ok.
use Rattle.std.specs.Prelude.{◌≡◌, List, OnOk, Result}
use Rattle.dv_change.specs.declared.change.Change.{Change}
use Rattle.dv_change.specs.declared.input.Input.{Input}
use Rattle.dv_change.specs.declared.taking.Taken.{Taken}
use Rattle.dv_change.specs.Changes.{Positioned}
use Rattle.dv_change.specs.Inputs.{left_after, others_after}
use Rattle.dv_change.specs.Inner.Told.{ComesTo}
use Rattle.dv_views.specs.declared.stage_operator.StageOperator.{StageOperator}
use Rattle.dv_views.specs.Inner.Operating.{HoldsStage, stage_makes}

module _ {A E : Type 0} (r : Result A E) where
  abbrev pub Makes : StageOperator → StageOperator → Type 0
  Makes after before = OnOk r (stage_makes after ≡ stage_makes before)

  module _ (input : Input) (taken : Taken) where
    abbrev pub Holds : StageOperator → StageOperator → Type 0
    Holds after before =
        OnOk r ((others : List Positioned) (left : Positioned) (change : Change) → HoldsStage before others left → ComesTo input taken change others left → HoldsStage after (others_after input change others) (left_after input change left))
