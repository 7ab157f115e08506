use Rattle.std.proofs.Common.{◌≡◌, take}
use Rattle.dv_candidates.proofs.path.copies_of.Given as goal

abbrev pub invariant-loop-component : goal.invariant-loop-component
invariant-loop-component l = l.copies.items ≡ take l.component-index l.component-items
