use Rattle.dv_host.specs.Schedule.{HappensBy}
use Rattle.dv_host.specs.Inner.Serving.{Continues}
use Rattle.dv_host.proofs.hosting.serve_ready.Given as goal

abbrev pub invariant-ready : goal.invariant-ready
invariant-ready g l =
    Continues (HappensBy g.S.Sessions.opens g.S.Sessions.feeds g.S.Sessions.ends) g.S.Sessions.next g.O.Outside.coming g.O.Outside.closed g.O.Channel.Channel.remaining g.O.Channel.Channel.contents
    (λ count. count) l.fn.outside l.fn.sessions l.fn.links.items l.outside l.sessions l.links.items
