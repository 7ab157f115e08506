use Rattle.std.proofs.Common.{◌≡◌, false, refl}
use Rattle.std.specs.String.{string_bytes}
use Rattle.dv_catalog.specs.State.{is_view}
use Rattle.dv_command.specs.Inner.View.{write_seen}
use Rattle.dv_core.specs.State.{State}
use Rattle.dv_core.specs.Writes.{write_by}
use Rattle.dv_core.proofs.Steps.{on_collection}
use Rattle.dv_core.proofs.machine.Machine.write.Goals as goal

pub returns : goal.returns
returns c =
    let old : State = record { catalog = c.self.inside.catalog.state; cursors = c.self.inside.cursors; marks = c.self.inside.catalog.marks } in
    let new : State = record { catalog = c.write_all.new.catalog.state; cursors = c.self.inside.cursors; marks = c.write_all.new.catalog.marks } in
    let on : is_view (string_bytes c.args.write.namespace) c.self.inside.catalog.state.views ≡ false = cc in
    rw (← c.self.view_is) (on_collection (write_by (write_seen c.args.write)) old new c.write_all.result on c.write_all.ensures.writes c.write_all.ensures.views refl)
