use Rattle.std.proofs.Common.{◌≡◌, length}
use Rattle.dv_streams.specs.Stream.{MoreBy}
use Rattle.dv_scripts.specs.Script.{standing_of}
use Rattle.dv_scripts.proofs.Scripts.{ReadSoFar}
use Rattle.dv_scripts.proofs.script.Progress.read.Given as goal

-- what was read was taken, and nobody has failed
abbrev pub invariant-reads : goal.invariant-reads
invariant-reads g l =
    ReadSoFar (standing_of l.fn.self.sessions l.fn.hub) l.counter (g.R.ByteIn.remaining l.fn.reader) (g.R.ByteIn.remaining l.reader) (g.W.ByteOut.contents l.fn.writer) (g.W.ByteOut.contents l.writer)
    (standing_of l.self.sessions l.hub) l.self.number l.self.line.items
    × (length l.piece.items ≡ 65536)
    × (g.R.ByteIn.failures l.reader ≡ g.R.ByteIn.failures l.fn.reader)
    × (g.W.ByteOut.failures l.writer ≡ g.W.ByteOut.failures l.fn.writer)
    × MoreBy l.counter (g.R.ByteIn.reads l.fn.reader) (g.R.ByteIn.reads l.reader)
