use Rattle.std.proofs.Common.{◌≡◌, ◌<◌, ℕ, true}
use Rattle.dv_match.specs.Inner.Blocks.{has}
use Rattle.dv_match.proofs.marks.Marks.are_on_first.Given as goal

abbrev pub invariant-loop-place : goal.invariant-loop-place
invariant-loop-place l = (k : ℕ) → k < l.place → has l.self k ≡ true
