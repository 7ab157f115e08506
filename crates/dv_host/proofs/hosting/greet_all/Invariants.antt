use Rattle.std.proofs.Common.{◌+◌, ◌≤◌, ◌-◌}
use Rattle.dv_host.specs.Schedule.{HappensBy}
use Rattle.dv_host.specs.Inner.Serving.{Continues}
use Rattle.dv_host.proofs.hosting.greet_all.Given as goal

abbrev pub invariant-greets : goal.invariant-greets
invariant-greets g l =
    (l.count ≤ l.most) × (
    Continues (HappensBy g.S.Sessions.opens g.S.Sessions.feeds g.S.Sessions.ends) g.S.Sessions.next g.O.Outside.coming g.O.Outside.closed g.O.Channel.Channel.remaining g.O.Channel.Channel.contents
    (λ count. count + l.count) l.fn.outside l.fn.sessions l.fn.links.items l.outside l.sessions l.links.items)

abbrev pub decreases-greets : goal.decreases-greets
decreases-greets g l = l.most - l.count
