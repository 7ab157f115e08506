use Rattle.std.proofs.Common.{map, take}
use Rattle.dv_value.specs.Inner.Removing.{HasEach}
use Rattle.dv_value.proofs.removing.indexed.Given as goal

abbrev pub invariant-loop-place : goal.invariant-loop-place
invariant-loop-place l = HasEach (map (λ n. n.now) (take l.place l.names)) l.index
