-- The parts so far follow the others.
use Rattle.std.proofs.Common.{◌≡◌, ◌++◌, take}
use Rattle.dv_change.proofs.position.push_all.Given as goal

abbrev pub invariant-parts : goal.invariant-parts
invariant-parts l = l.all.items ≡ l.fn.all.items ++ take l.part-index l.parts
