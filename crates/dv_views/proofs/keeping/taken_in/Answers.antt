-- What holds of the rows that come out holds of what a view keeps.
use Rattle.std.proofs.Common.{subst}
use Rattle.dv_change.specs.declared.taking.Taken as taking
use Rattle.dv_change.specs.declared.told_rows.ToldRows.{ToldRows}
use Rattle.dv_change.specs.Inner.ToldRows.{TakesTold}
use Rattle.dv_views.specs.declared.stage_operator.StageOperator.{StageOperator}
use Rattle.dv_views.specs.Inner.Operating.{HoldsStage, stage_makes}
use Rattle.dv_views.specs.Inner.ResultLaws.{ok_then}
use Rattle.dv_views.proofs.Rolling.{turns_once}
use Rattle.dv_views.proofs.keeping.taken_in.Goals as goal

pub returns-clause-turns : goal.returns-clause-turns
returns-clause-turns c =
    let first = c.args.told.now.items in
    let now = c.take.new.told.items in
    ok_then c.take.result c.take.ensures.taken (λ (after : ToldRows StageOperator) takes.
    turns_once c.args.input c.args.taken.now c.args.rows after first now
    (subst (λ (t : taking.Taken). TakesTold stage_makes HoldsStage c.args.input t c.args.rows after first now) c.in_ok-try_clone.ensures takes))
