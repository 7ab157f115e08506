use Rattle.dv_cursor.proofs.First.{none_from_there, own_first, other_first}
use Rattle.dv_cursor.proofs.cursors.Cursors.first_of.Goals as goal

pub returns-in_err-place-clause-none : goal.returns-in_err-place-clause-none
returns-in_err-place-clause-none c =
    λ is id. rw (← c.self.view_is) (none_from_there c.self.inside.cursors c.args.session c.range.result (c.range.ensures.in_range tt) c.in_err-place.ensures.steps.0 id)

pub returns-then-owner-session-clause-some : goal.returns-then-owner-session-clause-some
returns-then-owner-session-clause-some c =
    rw (← c.self.view_is)
    (own_first c.self.inside.cursors c.args.session c.range.result (c.range.ensures.in_range tt) c.in_ok-place.place.now c.in_ok-place.field-0-1.now c.next.new.self c.in_ok-place.ensures.steps c.if-owner-session.true)

pub returns-else-owner-session-clause-none : goal.returns-else-owner-session-clause-none
returns-else-owner-session-clause-none c =
    λ is id. rw (← c.self.view_is)
    (other_first c.self.inside.cursors c.args.session c.range.result (c.range.ensures.in_range tt) c.in_ok-place.place.now c.in_ok-place.field-0-1.now c.next.new.self c.in_ok-place.ensures.steps c.if-owner-session.false id)
