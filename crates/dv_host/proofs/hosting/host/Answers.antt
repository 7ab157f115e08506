use Rattle.std.proofs.Common.{◌≡◌, ◌+◌, List, arith, map, subst, sym}
use Rattle.dv_host.specs.Schedule.{HappensBy, PlaysBy}
use Rattle.dv_host.specs.Inner.Links.{seen_by}
use Rattle.dv_host.specs.Inner.Hosting.{Hosts}
use Rattle.dv_host.specs.declared.link.Link.{Link}
use Rattle.dv_host.proofs.All.{all_served, begins, recounted}
use Rattle.dv_host.proofs.hosting.host.Goals as goal

pub returns-in_default : goal.returns-in_default
returns-in_default g c =
    let Happens = HappensBy g.S.Sessions.opens g.S.Sessions.feeds g.S.Sessions.ends in
    let sessions = c.args.sessions.now in
    let coming = g.O.Outside.coming c.args.outside.now in
    let closed = g.O.Outside.closed c.args.outside.now in
    let next = g.S.Sessions.next sessions in
    let all = all_served Happens coming coming closed closed sessions sessions next 0 (begins Happens coming closed sessions next) in
    (0, tt, all.0, all.1)

pub returns : goal.returns
returns g c =
    let Happens = HappensBy g.S.Sessions.opens g.S.Sessions.feeds g.S.Sessions.ends in
    let seen = seen_by g.O.Channel.Channel.remaining g.O.Channel.Channel.contents in
    let none = subst (λ (ls : List (Link g.row.O-Channel.Denot)). Hosts (PlaysBy Happens) (g.O.Outside.coming c.args.outside.now) (g.O.Outside.coming c.args.outside.now) (g.O.Outside.closed c.args.outside.now) (g.O.Outside.closed c.args.outside.now)
    c.args.sessions.now c.args.sessions.now (g.S.Sessions.next c.args.sessions.now) 0 (map seen ls)) (sym c.new-links.ensures.items) (begins Happens _ _ _ _) in
    let had = c.rounds-told.ensures c.args.outside.now c.args.sessions.now 0 none in
    let behind = c.finish_all.ensures.stands c.args.outside.now c.args.sessions.now _ had.2 in
    let same : 0 + had.0 ≡ had.0 = omega arith in
    let hosts = recounted Happens _ _ _ _ _ _ _ _ _ (subst (λ (ls : List (Link g.row.O-Channel.Denot)). Hosts (PlaysBy Happens) (g.O.Outside.coming c.args.outside.now) (g.O.Outside.coming c.finish_all.new.outside) (g.O.Outside.closed c.args.outside.now) (g.O.Outside.closed c.finish_all.new.outside)
    c.args.sessions.now c.finish_all.new.sessions (g.S.Sessions.next c.finish_all.new.sessions) (0 + had.0) (map seen ls)) c.finish_all.ensures.none behind) had.0 same in
    let all = all_served Happens _ _ _ _ _ _ _ _ hosts in
    (had.0, had.1, all.0, all.1)
