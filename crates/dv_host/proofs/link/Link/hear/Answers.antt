use Rattle.std.proofs.Common.{◌∙◌, refl}
use Rattle.dv_host.specs.Schedule.{HappensBy}
use Rattle.dv_host.proofs.Moving.{moves_joined, moves_still}
use Rattle.dv_host.proofs.link.Link.hear.Goals as goal

pub messages-init : goal.messages-init
messages-init g c = (moves_still (HappensBy g.S.Sessions.opens g.S.Sessions.feeds g.S.Sessions.ends) c.args.sessions.now _ _ c.drop_given.ensures, refl)

pub messages-preserved : goal.messages-preserved
messages-preserved g c = (
  moves_joined (HappensBy g.S.Sessions.opens g.S.Sessions.feeds g.S.Sessions.ends) c.args.sessions.now c.messages.sessions c.hear_front.new.sessions _ _ _ c.messages.invariant.0 c.hear_front.ensures.moves,
  c.hear_front.ensures.next ∙ c.messages.invariant.1,
)
