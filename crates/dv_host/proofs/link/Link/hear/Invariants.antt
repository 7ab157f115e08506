use Rattle.std.proofs.Common.{◌≡◌, length}
use Rattle.dv_host.specs.Schedule.{HappensBy, PlaysBy}
use Rattle.dv_host.specs.Inner.Links.{pending_of, seen_by}
use Rattle.dv_host.specs.Inner.Moving.{Moves}
use Rattle.dv_host.proofs.link.Link.hear.Given as goal

abbrev pub invariant-messages : goal.invariant-messages
invariant-messages g l =
    Moves (PlaysBy (HappensBy g.S.Sessions.opens g.S.Sessions.feeds g.S.Sessions.ends)) l.fn.sessions l.sessions
    (seen_by g.C.Channel.remaining g.C.Channel.contents l.fn.self) (seen_by g.C.Channel.remaining g.C.Channel.contents l.self)
    × (g.S.Sessions.next l.sessions ≡ g.S.Sessions.next l.fn.sessions)

abbrev pub decreases-messages : goal.decreases-messages
decreases-messages g l = length (pending_of l.self)
