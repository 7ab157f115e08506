use Rattle.std.proofs.Common.{sym, ◌∙◌}
use Rattle.dv_cursor.proofs.Ended.{without_session-closed, without_session-none, len-closed}
use Rattle.dv_cursor.proofs.cursors.Cursors.end_session.Goals as goal

pub cursors-smaller : goal.cursors-smaller
cursors-smaller c = rw c.close.ensures (len-closed c.args.session c.in-Some.id c.cursors.self c.in-Some.ensures.some)

pub cursors-preserved : goal.cursors-preserved
cursors-preserved c = rw c.close.ensures (without_session-closed c.args.session c.in-Some.id c.cursors.self ∙ c.cursors.invariant)

pub returns : goal.returns
returns c = sym (without_session-none c.args.session c.cursors.self (c.first_of.ensures.none c.in_default.is)) ∙ c.cursors.invariant
