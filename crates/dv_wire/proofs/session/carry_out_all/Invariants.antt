use Rattle.std.proofs.Common.{length}
use Rattle.dv_wire.proofs.Streams.{Progress}
use Rattle.dv_wire.proofs.session.carry_out_all.Given as goal

abbrev pub invariant-messages : goal.invariant-messages
invariant-messages l = Progress l.session l.fn.store l.store l.stream l.rest l.fn.out.items l.out.items l.fn.counts l.counts

abbrev pub decreases-messages : goal.decreases-messages
decreases-messages l = length l.rest
