use Rattle.std.proofs.Common.{◌≡◌, []}
use Rattle.dv_streams.specs.Stream.{MoreBy}
use Rattle.dv_wire.proofs.Talks.{Talking}
use Rattle.dv_wire.proofs.service.serve.Given as goal

-- what was read was taken and answered, and nobody failed
abbrev pub invariant-reads : goal.invariant-reads
invariant-reads g l =
    Talking l.session.number l.fn.hub (g.R.ByteIn.remaining l.fn.reader) (g.R.ByteIn.remaining l.reader) (g.W.ByteOut.contents l.fn.writer) (g.W.ByteOut.contents l.writer) l.hub l.counts l.counter
    × (l.replies.items ≡ []) × (g.R.ByteIn.failures l.reader ≡ g.R.ByteIn.failures l.fn.reader) × (g.W.ByteOut.failures l.writer ≡ g.W.ByteOut.failures l.fn.writer)
    × MoreBy l.counter (g.R.ByteIn.reads l.fn.reader) (g.R.ByteIn.reads l.reader)
