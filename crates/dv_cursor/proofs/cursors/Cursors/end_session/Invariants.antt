use Rattle.std.proofs.Common.{◌≡◌}
use Rattle.std.specs.FinMap as finite
use Rattle.dv_cursor.specs.Cursors.{without_session}
use Rattle.dv_cursor.proofs.cursors.Cursors.end_session.Given as goal

-- what is removed is the session's
abbrev pub invariant-cursors : goal.invariant-cursors
invariant-cursors l = without_session l.session l.self ≡ without_session l.session l.fn.self

abbrev pub decreases-cursors : goal.decreases-cursors
decreases-cursors l = finite.len l.self.kept
