use Rattle.std.proofs.Common.{ap}
use Rattle.dv_cursor.specs.Cursors.{Cursors}
use Rattle.dv_cursor.proofs.Kept.{Kept, kept-remove}
use Rattle.dv_cursor.proofs.cursors.Cursors.close.Goals as goal

pub returns : goal.returns
returns c =
    let without = kept-remove c.self.inside.cursors c.remove.new.self (c.args.session, c.args.id) c.remove.ensures.updates in
    let as_view : Kept → Cursors = λ m. record { kept = m; next = c.self.inside.next } in
    rw (← c.self.view_is) (ap as_view without)
