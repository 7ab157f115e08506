use Rattle.std.proofs.Common.{◌≡◌, ◌-◌, length}
use Rattle.dv_host.proofs.Giving.{HasGiven}
use Rattle.dv_host.proofs.channel.give_on.Given as goal

abbrev pub invariant-gives : goal.invariant-gives
invariant-gives g l =
    HasGiven (g.C.Channel.contents l.fn.channel) (g.C.Channel.contents l.channel) l.bytes l.count × (g.C.Channel.remaining l.channel ≡ g.C.Channel.remaining l.fn.channel)

abbrev pub decreases-gives : goal.decreases-gives
decreases-gives g l = length l.bytes - l.count
