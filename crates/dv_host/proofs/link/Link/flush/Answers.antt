use Rattle.std.proofs.Common.{List, ℕ, refl, subst, take}
use Rattle.dv_host.specs.Channel.{Gains}
use Rattle.dv_host.specs.Inner.Links.{seen_by}
use Rattle.dv_host.proofs.Giving.{rest_of}
use Rattle.dv_host.proofs.Moving.{gives_some}
use Rattle.dv_host.proofs.link.Link.flush.Goals as goal

pub returns : goal.returns
returns g c =
    let taken = subst (λ (r : List ℕ). Gains (g.C.Channel.contents c.args.self.now.channel) (g.C.Channel.contents c.give_on-given.new.channel) (take c.give_on-given.result.count r))
    (rest_of c.deref.result.now c.args.self.now.out.items c.args.self.now.sent c.deref.ensures.value) c.give_on-given.ensures.taken in
    gives_some (seen_by g.C.Channel.remaining g.C.Channel.contents c.args.self.now) _ c.args.self.now.out.items c.args.self.now.sent c.give_on-given.result.count refl refl refl c.give_on-given.ensures.remaining refl refl taken
