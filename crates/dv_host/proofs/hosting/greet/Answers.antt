use Rattle.std.proofs.Common.{◌≡◌, ◌+◌, ◌∙◌, ◌++◌, ◌∷◌, [], ℕ, List, Option, Some, ap, arith, map, subst, sym}
use Rattle.dv_host.specs.Outside.{Accepts, Closed, Closes, HasTaken, MayAccept}
use Rattle.dv_host.specs.Schedule.{HappensBy, PlaysBy}
use Rattle.dv_host.specs.View.{Seen}
use Rattle.dv_host.specs.Inner.Links.{seen_by}
use Rattle.dv_host.specs.Inner.Hosting.{Hosts}
use Rattle.dv_host.specs.declared.link.Fate.TheVariants.{Failed}
use Rattle.dv_host.specs.declared.link.Link.{Link}
use Rattle.dv_host.proofs.Linked.{fresh_so, link_opened}
use Rattle.dv_host.proofs.All.{refused_for}
use Rattle.dv_host.proofs.hosting.greet.Goals as goal

pub returns-in-Some : goal.returns-in-Some
returns-in-Some g c = λ first start count stands.
    let Happens = HappensBy g.S.Sessions.opens g.S.Sessions.feeds g.S.Sessions.ends in
    let remaining = g.O.Channel.Channel.remaining in
    let contents = g.O.Channel.Channel.contents in
    let coming = g.O.Outside.coming c.args.outside.now in
    let coming_new = g.O.Outside.coming c.accept.new.self in
    let came : MayAccept remaining contents (Some c.in-Ok-Some.channel) coming coming_new =
    subst (λ (o : Option g.row.O-Channel.Denot). MayAccept remaining contents o coming coming_new) c.in-Ok-Some.field-0-is c.in-Ok-Some.ensures.accepted in
    let seen = seen_by remaining contents c.new.result in
    let made = c.new.ensures in
    let accepts = subst (λ (left : Option (List ℕ)). Accepts coming left coming_new) (sym (ap (λ (l : Seen). l.left) made)) came.0 in
    let has = subst (λ (taken : Option (List ℕ)). HasTaken taken []) (sym (ap (λ (l : Seen). l.taken) made)) came.1 in
    let fresh = fresh_so seen c.in-Some.session (g.S.Sessions.next c.args.sessions.now) _ _ made c.in-Some.ensures.numbers.0 in
    let opens = subst (λ (n : ℕ). g.S.Sessions.opens c.args.sessions.now (Some n) c.open.new.self) c.in-Some.ensures.numbers.0 c.in-Some.ensures.opened in
    let links_are : c.push_reserved.new.self.items ≡ c.args.links.now.items ++ c.new.result ∷ [] =
    c.push_reserved.ensures.items ∙ ap (λ (ls : List (Link g.row.O-Channel.Denot)). ls ++ c.new.result ∷ []) c.reserve.ensures.items in
    subst (λ (ls : List (Link g.row.O-Channel.Denot)). Hosts (PlaysBy Happens) (g.O.Outside.coming first) coming_new (g.O.Outside.closed first) (g.O.Outside.closed c.accept.new.self)
    start c.open.new.self (g.S.Sessions.next c.open.new.self) (count + 1) (map (seen_by remaining contents) ls)) (sym links_are)
    (link_opened Happens (seen_by remaining contents) _ _ _ _ start c.args.sessions.now c.open.new.self _ _ count c.args.links.now.items _ _ c.new.result (omega (arith, c.if-len-ge-LIMIT.false, c.len.ensures, c.args.links.now.ok.0))
    c.in-Some.ensures.numbers.1 opens accepts has fresh c.in-Ok-Some.ensures.closed stands)

pub returns-in-None : goal.returns-in-None
returns-in-None g c = λ first start count stands.
    let Happens = HappensBy g.S.Sessions.opens g.S.Sessions.feeds g.S.Sessions.ends in
    let remaining = g.O.Channel.Channel.remaining in
    let contents = g.O.Channel.Channel.contents in
    let coming = g.O.Outside.coming c.args.outside.now in
    let coming_new = g.O.Outside.coming c.accept.new.self in
    let came : MayAccept remaining contents (Some c.in-Ok-Some.channel) coming coming_new =
    subst (λ (o : Option g.row.O-Channel.Denot). MayAccept remaining contents o coming coming_new) c.in-Ok-Some.field-0-is c.in-Ok-Some.ensures.accepted in
    let accepts = subst (Accepts coming (remaining c.in-Ok-Some.channel)) (sym c.close.ensures.coming) came.0 in
    let closes = subst (λ (old : Option (List Closed)). Closes old (remaining c.in-Ok-Some.channel) (contents c.in-Ok-Some.channel) Failed (g.O.Outside.closed c.close.new.self)) c.in-Ok-Some.ensures.closed c.close.ensures.closed in
    subst (λ (ls : List (Link g.row.O-Channel.Denot)). Hosts (PlaysBy Happens) (g.O.Outside.coming first) (g.O.Outside.coming c.close.new.self) (g.O.Outside.closed first) (g.O.Outside.closed c.close.new.self)
    start c.open.new.self (g.S.Sessions.next c.open.new.self) (count + 1) (map (seen_by remaining contents) ls)) (sym c.reserve.ensures.items)
    (refused_for Happens _ _ _ _ start c.args.sessions.now _ count _ stands c.open.new.self _ _ _ (remaining c.in-Ok-Some.channel) (contents c.in-Ok-Some.channel) c.in-None.ensures.numbers c.in-None.ensures.opened accepts came.1 closes)
