-- What the rows of a live view stand for.
use Rattle.dv_change.specs.declared.told_rows.ToldRows.{ToldRows}
use Rattle.dv_change.specs.Inner.ToldRows.{AreSound}
use Rattle.dv_views.specs.declared.stage_operator.StageOperator.{StageOperator}
use Rattle.dv_views.specs.Inner.Operating.{IsSoundStage}
use Rattle.dv_views.specs.Views.{Kept}

abbrev pub kept_seen : ToldRows StageOperator → Kept
kept_seen rows = record { operators = rows.operators; rows = rows.rows.entries; ticks = rows.ticks }

-- no stage is spent, and the rows are in order
abbrev pub IsSoundLive : ToldRows StageOperator → Type 0
IsSoundLive rows = AreSound IsSoundStage rows
