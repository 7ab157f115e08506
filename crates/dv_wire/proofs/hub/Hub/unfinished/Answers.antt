use Rattle.std.proofs.Common.{ap, arith, sym, ◌∙◌}
use Rattle.dv_wire.specs.Schedule.{unfinished_in}
use Rattle.dv_wire.proofs.Sessions.{nowhere, there, within}
use Rattle.dv_wire.proofs.hub.Hub.unfinished.Goals as goal

pub index-requires : goal.index-requires
index-requires c = omega (arith, within c.args.session.number c.in-Some.place c.deref.result.now (sym c.place_of.ensures ∙ c.in-Some.is), c.deref.ensures.len)

pub returns-in-Some : goal.returns-in-Some
returns-in-Some c =
    let seen = there c.args.session.number c.in-Some.place c.deref.result.now c.index.result.now (sym c.place_of.ensures ∙ c.in-Some.is) in
    rw (← c.self.view_is, ← c.deref.ensures.value) (rw (seen.0, c.deref.ensures.value, ← c.index.ensures) c.unfinished_len.ensures)

pub returns-in-None : goal.returns-in-None
returns-in-None c =
    rw (← c.self.view_is, ← c.deref.ensures.value) (sym (ap unfinished_in (nowhere c.args.session.number c.deref.result.now (sym c.place_of.ensures ∙ c.in-None.is)).0))
