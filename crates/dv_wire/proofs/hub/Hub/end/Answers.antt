use Rattle.std.proofs.Common.{refl, sym, ap, ◌∙◌, arith}
use Rattle.dv_wire.specs.Schedule.{unfinished_in}
use Rattle.dv_wire.proofs.Sessions.{nowhere, within, there, sessions_but-remove, numbered_but}
use Rattle.dv_wire.proofs.hub.Hub.end.Goals as goal

pub returns-in_default-clause-unfinished : goal.returns-in_default-clause-unfinished
returns-in_default-clause-unfinished c =
    rw (← c.self.view_is, ← c.deref.ensures.value) (sym (ap unfinished_in (nowhere c.args.session.number c.deref.result.now (sym c.place_of.ensures ∙ c.in_default.is)).0))

pub returns-in_default-clause-ended : goal.returns-in_default-clause-ended
returns-in_default-clause-ended c =
    let none = nowhere c.args.session.number c.deref.result.now (sym c.place_of.ensures ∙ c.in_default.is) in
    rw (← c.self.view_is, ← c.deref.ensures.value, c.end_session.ensures) (rw none.1 refl)

pub remove-session-requires : goal.remove-session-requires
remove-session-requires c =
    omega (arith, within c.args.session.number c.in-Some.place c.deref.result.now (sym c.place_of.ensures ∙ c.in-Some.is), c.deref.ensures.len)

pub returns-clause-unfinished : goal.returns-clause-unfinished
returns-clause-unfinished c =
    let seen = there c.args.session.number c.in-Some.place c.deref.result.now c.remove-session.result (sym c.place_of.ensures ∙ c.in-Some.is) in
    rw (← c.self.view_is, ← c.deref.ensures.value) (rw (seen.0, c.deref.ensures.value, ← c.remove-session.ensures.value) c.unfinished_len.ensures)

pub returns-clause-ended : goal.returns-clause-ended
returns-clause-ended c =
    let less = sessions_but-remove c.args.session.number c.in-Some.place c.deref.result.now (sym c.place_of.ensures ∙ c.in-Some.is) in
    rw (← c.self.view_is, c.remove-session.ensures.items, ← c.deref.ensures.value, c.end_session.ensures) (rw less refl)

pub invariant_of-self-2 : goal.invariant_of-self-2
invariant_of-self-2 c =
    let place = rw c.deref.ensures.value at (sym c.place_of.ensures ∙ c.in-Some.is) in
    rw c.remove-session.ensures.items (numbered_but c.args.session.number c.in-Some.place c.self.inside.sessions.items c.self.inside.next place c.self.invariant)
