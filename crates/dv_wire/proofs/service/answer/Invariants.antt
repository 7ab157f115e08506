use Rattle.std.proofs.Common.{◌≡◌, length}
use Rattle.dv_wire.proofs.Pieces.{Answering}
use Rattle.dv_wire.proofs.service.answer.Given as goal

abbrev pub invariant-messages : goal.invariant-messages
invariant-messages g l =
    Answering l.session.number l.fn.hub l.read l.rest l.replies.items l.fn.counts l.counts l.fed l.hub (g.W.ByteOut.contents l.fn.writer) (g.W.ByteOut.contents l.writer)
    × (g.W.ByteOut.failures l.writer ≡ g.W.ByteOut.failures l.fn.writer)

abbrev pub decreases-messages : goal.decreases-messages
decreases-messages g l = length l.rest
