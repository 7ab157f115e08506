-- Operators of stages that have taken in nothing have taken in lists of no rows.
use Rattle.std.proofs.Common.{List, subst, sym}
use Rattle.dv_change.specs.Inner.RowLaws.{positioned-none}
use Rattle.dv_change.specs.Changes.{Positioned}
use Rattle.dv_change.specs.Inner.Changes.{IsPositioned}
use Rattle.std.specs.List.{AllByRecursion}
use Rattle.dv_pipe.specs.declared.stage.Stage.{Stage}
use Rattle.dv_views.specs.declared.stage_operator.StageOperator.{StageOperator}
use Rattle.dv_views.specs.Inner.Holding.{lists_of_all}
use Rattle.dv_views.specs.Inner.Operating.{AreFresh, IsSoundStage, empty_lists}
use Rattle.dv_views.specs.Placed.{forms}
use Rattle.dv_views.proofs.Rolling.{empty_count, fresh_operators, sound_operators}
use Rattle.dv_views.proofs.keeping.nothing_taken_in.Goals as goal

pub returns-clause-sound : goal.returns-clause-sound
returns-clause-sound c =
    let fresh = subst (λ (ss : List Stage). AreFresh ss c.in_ok-operators.operators.items) c.stages.ensures c.in_ok-operators.ensures in
    record {
      operators = subst (λ (os : List StageOperator). AllByRecursion IsSoundStage os) (sym c.new.ensures.operators) (sound_operators c.args.pipeline.now c.in_ok-operators.operators.items fresh);
      positioned = subst (λ (rows : Positioned). IsPositioned rows) (sym c.new.ensures.rows) positioned-none;
    }

pub returns-clause-made : goal.returns-clause-made
returns-clause-made c =
    let stages = c.args.pipeline.now in
    let fresh = subst (λ (ss : List Stage). AreFresh ss c.in_ok-operators.operators.items) c.stages.ensures c.in_ok-operators.ensures in
    record {
      made = c.new.ensures.made (forms stages (empty_lists (lists_of_all stages))) (fresh_operators stages c.in_ok-operators.operators.items fresh);
      count = empty_count (lists_of_all stages);
    }
