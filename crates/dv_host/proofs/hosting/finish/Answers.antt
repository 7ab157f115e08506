use Rattle.std.proofs.Common.{List, ◌<◌, length, arith, map, subst, sym}
use Rattle.dv_host.specs.Schedule.{HappensBy, PlaysBy}
use Rattle.dv_host.specs.Inner.Links.{seen_by}
use Rattle.dv_host.specs.Inner.Hosting.{Hosts}
use Rattle.dv_host.specs.declared.link.Link.{Link}
use Rattle.dv_host.proofs.Linked.{link_closed, read_there}
use Rattle.dv_host.proofs.hosting.finish.Goals as goal

pub returns-clause-stands : goal.returns-clause-stands
returns-clause-stands g c = λ first start count stands.
    let Happens = HappensBy g.S.Sessions.opens g.S.Sessions.feeds g.S.Sessions.ends in
    let seen = seen_by g.O.Channel.Channel.remaining g.O.Channel.Channel.contents in
    let lt : c.args.place < length c.args.links.now.items = omega (arith, c.requires.there, c.args.links.now.ok.0) in
    let value = c.remove-link.ensures.value in
    subst (λ (ls : List (Link g.row.O-Channel.Denot)). Hosts (PlaysBy Happens) (g.O.Outside.coming first) (g.O.Outside.coming c.close.new.self) (g.O.Outside.closed first) (g.O.Outside.closed c.close.new.self)
    start c.end.new.self (g.S.Sessions.next c.end.new.self) count (map seen ls)) (sym c.remove-link.ensures.items)
    (link_closed Happens seen _ _ _ _ start c.args.sessions.now c.end.new.self _ _ count c.args.links.now.items _ _ c.args.place c.remove-link.result c.args.fate lt value c.end.ensures.numbers c.end.ensures.ended
    (c.requires.settles c.remove-link.result (read_there c.args.links.now.items c.args.place c.remove-link.result lt value)) c.close.ensures.coming c.close.ensures.closed stands)
