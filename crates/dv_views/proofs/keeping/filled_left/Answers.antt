-- The rows are inserted where there were none.
use Rattle.dv_change.specs.declared.told_rows.ToldRows.{ToldRows}
use Rattle.dv_views.specs.declared.stage_operator.StageOperator.{StageOperator}
use Rattle.dv_views.specs.Placed.{forms}
use Rattle.dv_views.specs.Inner.ResultLaws.{ok_then}
use Rattle.dv_views.proofs.keeping.filled_left.Goals as goal

pub returns-clause-made : goal.returns-clause-made
returns-clause-made c =
    ok_then c.fill.result c.fill.ensures.made (λ (after : ToldRows StageOperator) fills stages named puts made exact told.
    record { made = fills (forms stages named) puts made.made exact told; count = made.count })
