use Rattle.std.proofs.Common.{length}
use Rattle.dv_streams.proofs.Written.{HasGiven}
use Rattle.dv_streams.proofs.stream.give_all.Given as goal

abbrev pub invariant-pieces : goal.invariant-pieces
invariant-pieces g l =
    HasGiven (g.W.ByteOut.contents l.fn.writer) (g.W.ByteOut.contents l.writer) l.bytes l.rest (g.W.ByteOut.failures l.fn.writer) (g.W.ByteOut.failures l.writer)

abbrev pub decreases-pieces : goal.decreases-pieces
decreases-pieces g l = length l.rest
