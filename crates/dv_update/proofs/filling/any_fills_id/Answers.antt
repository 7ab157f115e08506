use Rattle.std.proofs.Common.{sym}
use Rattle.dv_update.specs.Inner.Filling.{fills_id}
use Rattle.dv_update.specs.View.{edit}
use Rattle.dv_update.proofs.Made.{any_at}
use Rattle.dv_update.proofs.filling.any_fills_id.Goals as goal

pub returns-then-fills_id : goal.returns-then-fills_id
returns-then-fills_id c = λ always. any_at edit (fills_id c.args.document.now) c.args.edits.now c.edits.edit-index c.edit-item.result c.edits-test.true c.edit-item.is (sym c.if-fills_id.ensures)
