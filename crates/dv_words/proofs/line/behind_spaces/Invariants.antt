use Rattle.std.proofs.Common.{◌≡◌, ℕ, ◌++◌, length, replicate}
use Rattle.dv_words.proofs.line.behind_spaces.Given as goal

abbrev pub invariant-spaces : goal.invariant-spaces
invariant-spaces l = (n : ℕ) × (l.text ≡ replicate n 32 ++ l.rest)

abbrev pub decreases-spaces : goal.decreases-spaces
decreases-spaces l = length l.rest
