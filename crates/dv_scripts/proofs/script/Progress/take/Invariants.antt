use Rattle.std.proofs.Common.{◌≡◌, length}
use Rattle.dv_scripts.specs.Script.{standing_of}
use Rattle.dv_scripts.proofs.Pieces.{TakenSoFar}
use Rattle.dv_scripts.proofs.script.Progress.take.Given as goal

-- what is before the rest was taken, and the writer hasn't failed
abbrev pub invariant-lines : goal.invariant-lines
invariant-lines g l =
    TakenSoFar (standing_of l.fn.self.sessions l.fn.hub) l.fn.self.number l.fn.self.line.items l.piece (g.W.ByteOut.contents l.fn.writer) l.rest (g.W.ByteOut.contents l.writer)
    (standing_of l.self.sessions l.hub) l.self.number l.self.line.items
    × (g.W.ByteOut.failures l.writer ≡ g.W.ByteOut.failures l.fn.writer)

abbrev pub decreases-lines : goal.decreases-lines
decreases-lines g l = length l.rest
