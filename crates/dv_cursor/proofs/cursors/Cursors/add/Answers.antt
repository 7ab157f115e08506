use Rattle.std.proofs.Common.{◌+◌, ap}
use Rattle.dv_cursor.specs.Cursors.{Cursors}
use Rattle.dv_cursor.proofs.Kept.{Kept, kept-insert}
use Rattle.dv_cursor.proofs.cursors.Cursors.add.Goals as goal

pub returns-clause-ok : goal.returns-clause-ok
returns-clause-ok c =
    let with_new = kept-insert c.self.inside.cursors c.insert.new.self (c.args.session, c.self.inside.next) c.new.result c.in_ok-insert.ensures.updates in
    let as_view : Kept → Cursors = λ m. record { kept = m; next = c.self.inside.next + 1 } in
    rw (← c.self.view_is, ← c.new.ensures) (ap as_view with_new)
