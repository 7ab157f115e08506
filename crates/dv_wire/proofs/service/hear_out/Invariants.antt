use Rattle.std.proofs.Common.{length}
use Rattle.dv_wire.proofs.Pieces.{Hearing}
use Rattle.dv_wire.proofs.service.hear_out.Given as goal

abbrev pub invariant-messages : goal.invariant-messages
invariant-messages l = Hearing l.session.number l.fn.hub l.others l.rest l.fn.counts l.counts l.hub

abbrev pub decreases-messages : goal.decreases-messages
decreases-messages l = length l.rest
