use Rattle.std.proofs.Common.{◌∙◌}
use Rattle.dv_host.proofs.Giving.{more_given, rest_is}
use Rattle.dv_host.proofs.channel.give_on.Goals as goal

pub gives-preserved : goal.gives-preserved
gives-preserved g c = (
  more_given (g.C.Channel.contents c.args.channel.now) (g.C.Channel.contents c.gives.channel) (g.C.Channel.contents c.give.new.self) c.args.bytes.now _ c.gives.count c.in-Ok.more
      c.gives.invariant.0 (rest_is c.args.bytes.now c.gives.count) c.in-Ok.ensures.few c.in-Ok.ensures.taken,
  c.in-Ok.ensures.remaining ∙ c.gives.invariant.1,
)
