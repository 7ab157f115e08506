use Rattle.std.proofs.Common.{arith, refl, sym, ◌∙◌}
use Rattle.dv_wire.proofs.Sessions.{nowhere, there, within}
use Rattle.dv_wire.proofs.hub.Hub.whole_front.Goals as goal

pub index-requires : goal.index-requires
index-requires c = omega (arith, within c.args.session.number c.in-Some.place c.deref.result.now (sym c.place_of.ensures ∙ c.in-Some.is), c.deref.ensures.len)

pub returns-in-Some-clause-front : goal.returns-in-Some-clause-front
returns-in-Some-clause-front c =
    let seen = there c.args.session.number c.in-Some.place c.deref.result.now c.index.result.now (sym c.place_of.ensures ∙ c.in-Some.is) in
    rw (← c.self.view_is, ← c.deref.ensures.value) (rw (seen.0, c.deref.ensures.value, ← c.index.ensures) c.whole_front.ensures)

pub returns-in-None-clause-front : goal.returns-in-None-clause-front
returns-in-None-clause-front c =
    rw (← c.self.view_is, ← c.deref.ensures.value) (rw (nowhere c.args.session.number c.deref.result.now (sym c.place_of.ensures ∙ c.in-None.is)).0 refl)
