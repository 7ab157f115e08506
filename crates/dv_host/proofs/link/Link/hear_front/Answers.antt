use Rattle.std.proofs.Common.{arith, refl}
use Rattle.dv_host.specs.Inner.Links.{seen_by}
use Rattle.dv_host.proofs.Giving.{rest_of}
use Rattle.dv_host.proofs.Moving.{moves_front}
use Rattle.dv_host.proofs.link.Link.hear_front.Goals as goal

pub returns-clause-moves : goal.returns-clause-moves
returns-clause-moves g c =
    let link = c.args.self.now in
    let fed = c.feed-fed.ensures.fed in
    moves_front g.S.Sessions.opens g.S.Sessions.feeds g.S.Sessions.ends c.args.sessions.now c.feed-fed.new.self (seen_by g.C.Channel.remaining g.C.Channel.contents link) _
    link.rest.items _ link.out.items c.feed-fed.new.out.items fed.0 link.heard c.whole_front-count.result link.sent c.feed-fed.result
    (rest_of c.deref.result.now link.rest.items link.heard c.deref.ensures.value) (omega (arith, link.few, link.rest.ok.0)) c.whole_front-count.ensures.within (omega (arith, link.sent_within, link.out.ok.0))
    refl refl refl fed.1 refl c.requires.few refl refl refl c.closing_by-self.ensures fed.2
