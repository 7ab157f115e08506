use Rattle.std.proofs.Common.{◌≡◌, ◌-◌, ◌<◌, length}
use Rattle.std.specs.Io.KnownBytes.{Consumes}
use Rattle.dv_files.proofs.file.read_file.Given as goal

-- what was read is kept, and no read has failed
abbrev pub invariant-reads : goal.invariant-reads
invariant-reads g l =
    Consumes (g.R.ByteIn.remaining l.fn.reader) (g.R.ByteIn.remaining l.reader) l.bytes.items
    × (g.R.ByteIn.failures l.reader ≡ g.R.ByteIn.failures l.fn.reader)
    × (0 < length l.piece.items)

abbrev pub decreases-reads : goal.decreases-reads
decreases-reads g l = 1073741825 - length l.bytes.items
