use Rattle.std.proofs.Common.{refl, ap}
use Rattle.dv_message.specs.Message.{reading}
use Rattle.dv_wire.proofs.Sessions.{numbered_more, opened_seen}
use Rattle.dv_wire.proofs.hub.Hub.open.Goals as goal

pub invariant_of-self-2 : goal.invariant_of-self-2
invariant_of-self-2 c = numbered_more c.self.inside.sessions.items c.push.new.self.items c.self.inside.next _ c.self.invariant c.in_ok-push.ensures.items refl

pub returns-clause-there : goal.returns-clause-there
returns-clause-there c = opened_seen c.self.inside.sessions.items c.push.new.self.items c.self.inside.next _ c.self.invariant c.in_ok-push.ensures.items refl (ap reading c.new.ensures.items)
