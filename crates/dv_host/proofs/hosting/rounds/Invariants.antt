use Rattle.std.proofs.Common.{◌+◌, ◌≤◌, ◌-◌}
use Rattle.dv_host.specs.Schedule.{HappensBy}
use Rattle.dv_host.specs.Inner.Serving.{Continues}
use Rattle.dv_host.proofs.hosting.rounds.Given as goal

abbrev pub invariant-turns : goal.invariant-turns
invariant-turns g l =
    (l.left ≤ l.connections) × Continues (HappensBy g.S.Sessions.opens g.S.Sessions.feeds g.S.Sessions.ends) g.S.Sessions.next g.O.Outside.coming g.O.Outside.closed g.O.Channel.Channel.remaining g.O.Channel.Channel.contents
    (λ count. count + (l.connections - l.left)) l.fn.outside l.fn.sessions l.fn.links.items l.outside l.sessions l.links.items
