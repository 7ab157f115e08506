-- The changes of a list insert its rows.
use Rattle.std.proofs.Common.{◌∙◌}
use Rattle.dv_change.specs.declared.told_rows.ToldRows.{ToldRows}
use Rattle.dv_views.specs.declared.stage_operator.StageOperator.{StageOperator}
use Rattle.dv_views.specs.Inner.Keeping.{kept_seen}
use Rattle.dv_views.specs.Inner.ResultLaws.{ok_then}
use Rattle.dv_views.proofs.Building.{list_filled}
use Rattle.dv_views.proofs.making.filled_list.Goals as goal

pub returns-clause-made : goal.returns-clause-made
returns-clause-made c =
    ok_then c.taken_in_each.result c.taken_in_each.ensures.turns (λ (after : ToldRows StageOperator) turns stages front back list e are is made.
    list_filled c.args.place front back list c.as_slice.result.now (kept_seen c.args.rows) (kept_seen after) c.new-told.result.items c.taken_in_each.new.told.items e are (c.as_slice.ensures.value ∙ is) turns stages made)
