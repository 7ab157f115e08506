use Rattle.std.proofs.Common.{[], sym, ◌∙◌, arith}
use Rattle.std.proofs.lemmas.List.{append-nil}
use Rattle.dv_wire.proofs.Sessions.{within, numbered_set, comes_to_nobody, comes_to_one}
use Rattle.dv_wire.proofs.Counting.{Counted-none}
use Rattle.dv_wire.proofs.hub.Hub.feed_counted.Goals as goal

pub index_mut-session-requires : goal.index_mut-session-requires
index_mut-session-requires c =
    omega (arith, within c.args.session.number c.in-Some.place c.deref.result.now (sym c.place_of.ensures ∙ c.in-Some.is), c.deref.ensures.len)

pub returns-in_default : goal.returns-in_default
returns-in_default c =
    let place = rw c.deref.ensures.value at (sym c.place_of.ensures ∙ c.in_default.is) in
    rw (← c.self.view_is) ([], sym (append-nil _), Counted-none _, comes_to_nobody c.args.session.number c.self.inside.store c.self.inside.next c.self.inside.sessions.items c.args.piece.now place)

pub returns : goal.returns
returns c =
    let place = rw c.deref.ensures.value at (sym c.place_of.ensures ∙ c.in-Some.is) in
    let heard = c.hear.ensures.heard in
    rw (← c.self.view_is) (
      heard.0,
      heard.1,
      heard.2,
      comes_to_one c.args.session.number c.self.inside.store c.hear.new.store c.self.inside.next c.in-Some.place c.self.inside.sessions.items
          c.index_mut-session.result.now c.hear.new.self c.args.piece.now heard.0 c.hear.result place c.index_mut-session.ensures.value heard.3 c.hear.ensures.answer c.hear.ensures.number,
    )

pub invariant_of-self : goal.invariant_of-self
invariant_of-self c =
    let place = rw c.deref.ensures.value at (sym c.place_of.ensures ∙ c.in-Some.is) in
    numbered_set c.args.session.number c.in-Some.place c.self.inside.sessions.items c.self.inside.next c.index_mut-session.result.now c.hear.new.self place c.index_mut-session.ensures.value c.hear.ensures.number c.self.invariant
