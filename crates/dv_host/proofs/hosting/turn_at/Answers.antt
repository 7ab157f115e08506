use Rattle.std.proofs.Common.{arith, subst}
use Rattle.dv_host.specs.Schedule.{HappensBy}
use Rattle.dv_host.specs.Inner.Links.{seen_by}
use Rattle.dv_host.specs.Inner.Moving.{SettlesIn}
use Rattle.dv_host.specs.declared.link.Link.{Link}
use Rattle.dv_host.proofs.Linked.{link_moved, set_there}
use Rattle.dv_host.proofs.hosting.turn_at.Goals as goal

pub returns-clause-stands : goal.returns-clause-stands
returns-clause-stands g c = λ first start count stands.
    link_moved (HappensBy g.S.Sessions.opens g.S.Sessions.feeds g.S.Sessions.ends) (seen_by g.O.Channel.Channel.remaining g.O.Channel.Channel.contents) _ _ _ _ start c.args.sessions.now c.turn.new.sessions _ _ count c.args.links.now.items c.args.place
    c.index_mut.result.now c.turn.new.self (omega (arith, c.requires.there, c.args.links.now.ok.0)) c.index_mut.ensures.value c.turn.ensures.next c.turn.ensures.moves stands

pub returns-clause-settles : goal.returns-clause-settles
returns-clause-settles g c = λ link is.
    let same = set_there c.args.links.now.items c.args.place c.turn.new.self link (omega (arith, c.requires.there, c.args.links.now.ok.0)) is in
    subst (λ (l : Link g.row.O-Channel.Denot). SettlesIn c.turn.result (seen_by g.O.Channel.Channel.remaining g.O.Channel.Channel.contents l)) same c.turn.ensures.settles
