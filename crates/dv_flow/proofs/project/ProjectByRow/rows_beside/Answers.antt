-- The row that it returned for a row is at the position of that row.
use Rattle.std.proofs.Common.{◌∙◌}
use Rattle.std.proofs.lemmas.Result.{IfOk-weaker}
use Rattle.dv_flow.specs.Inner.Projecting.{project_beside}
use Rattle.dv_flow.proofs.project.ProjectByRow.rows_beside.Goals as goal

pub returns : goal.returns
returns c = IfOk-weaker c.row_alone.result _ _ (λ rows h left are is there. h ∙ project_beside c.args.self.now c.args.made.now.entries c.args.pos.now c.args._row.now left is there) c.row_alone.ensures
