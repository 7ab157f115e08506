-- The positions so far are exact.
use Rattle.std.specs.List.{AllByRecursion}
use Rattle.std.specs.Map.{keys_of}
use Rattle.dv_change.specs.Positions.{IsExact}
use Rattle.dv_change.proofs.packed.law_exact_rows.Given as goal

abbrev pub invariant-rows : goal.invariant-rows
invariant-rows l = AllByRecursion IsExact l.pos-iterator → AllByRecursion IsExact (keys_of l.rows.entries)
