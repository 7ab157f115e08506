use Rattle.dv_host.specs.Schedule.{HappensBy}
use Rattle.dv_host.proofs.All.{same_outside}
use Rattle.dv_host.proofs.hosting.serve_one.Goals as goal

pub returns-in-Again : goal.returns-in-Again
returns-in-Again g c = λ first start count stands.
    let behind = c.turn_at.ensures.stands first start count stands in
    same_outside (HappensBy g.S.Sessions.opens g.S.Sessions.feeds g.S.Sessions.ends) _ _ _ _ _ _ _ _ _ behind _ _ c.again.ensures.coming c.again.ensures.closed

pub returns-in-Over : goal.returns-in-Over
returns-in-Over g c = λ first start count stands. c.finish.ensures.stands first start count (c.turn_at.ensures.stands first start count stands)
