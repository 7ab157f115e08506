use Rattle.std.proofs.Common.{sym}
use Rattle.dv_update.specs.Apply.{is_pulled}
use Rattle.dv_update.specs.View.{pulled}
use Rattle.dv_update.proofs.Made.{any_here}
use Rattle.dv_update.proofs.form.Pulled.takes_any.Goals as goal

pub returns-then-takes : goal.returns-then-takes
returns-then-takes c =
    sym (any_here (is_pulled (pulled c.args.self.now)) c.as_slice-element-items.result.now c.args.list.now c.as_slice-element-items.ensures c.loop-element.element-index c.element-item.result c.loop-element-test.true c.element-item.is c.if-takes.ensures)
