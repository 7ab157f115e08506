use Rattle.std.proofs.Common.{length}
use Rattle.dv_words.specs.Inner.Reading.{IsPairs}
use Rattle.dv_words.proofs.line.are_pairs.Given as goal

abbrev pub invariant-pairs : goal.invariant-pairs
invariant-pairs l = (IsPairs l.rest → IsPairs l.text) × (IsPairs l.text → IsPairs l.rest)

abbrev pub decreases-pairs : goal.decreases-pairs
decreases-pairs l = length l.rest
