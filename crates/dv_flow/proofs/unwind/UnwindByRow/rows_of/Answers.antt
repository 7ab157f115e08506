-- The rows of the row, at positions that continue its own.
use Rattle.std.proofs.Common.{◌∙◌, ap, []}
use Rattle.std.proofs.lemmas.Result.{IfOk-weaker}
use Rattle.dv_change.specs.Changes.{in_row_order}
use Rattle.dv_flow.specs.Inner.Unwinding.{unwound_alone}
use Rattle.dv_flow.proofs.Apart.{unmarked-all}
use Rattle.dv_flow.proofs.unwind.UnwindByRow.rows_of.Goals as goal

pub returns : goal.returns
returns c =
    let pos = c.args.pos.now in
    let rows = c.in_ok-rows.rows in
    IfOk-weaker c.place_rows.result _ _ (λ placed is. is ∙ ap in_row_order (unmarked-all [] pos 0 rows (λ j k at marked. cc)) ∙ unwound_alone c.args.self.now pos c.args.row.now rows c.in_ok-rows.ensures) c.place_rows.ensures
