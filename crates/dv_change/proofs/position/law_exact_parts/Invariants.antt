-- The parts so far are exact.
use Rattle.std.proofs.Common.{take}
use Rattle.dv_change.specs.Positions.{IsExact}
use Rattle.dv_change.proofs.position.law_exact_parts.Given as goal

abbrev pub invariant-parts : goal.invariant-parts
invariant-parts l = IsExact (take l.part-index l.parts)
