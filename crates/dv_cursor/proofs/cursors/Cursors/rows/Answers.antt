use Rattle.std.proofs.Common.{refl}
use Rattle.dv_cursor.proofs.Kept.{get-kept}
use Rattle.dv_cursor.proofs.cursors.Cursors.rows.Goals as goal

pub returns-in_err-get : goal.returns-in_err-get
returns-in_err-get c =
    let there = get-kept c.self.inside.cursors.entries (c.args.session, c.args.id) in
    rw (c.from_residual.ensures, ← c.self.view_is, there, ← c.in_err-get.ensures.value) refl

pub returns : goal.returns
returns c =
    let there = get-kept c.self.inside.cursors.entries (c.args.session, c.args.id) in
    rw (← c.self.view_is, there, ← c.in_ok-get.ensures.value) c.rows.ensures
