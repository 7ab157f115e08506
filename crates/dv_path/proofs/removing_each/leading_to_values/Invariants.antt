-- The paths so far, and those that are left, are those that lead to a value.
use Rattle.std.proofs.Common.{◌≡◌, ◌++◌, drop}
use Rattle.std.specs.List.{filter}
use Rattle.dv_path.specs.Inner.Apart.{leads_to_value}
use Rattle.dv_path.proofs.Together.{lent}
use Rattle.dv_path.proofs.removing_each.leading_to_values.Given as goal

abbrev pub invariant-paths : goal.invariant-paths
invariant-paths l = lent l.there.items ++ filter (leads_to_value l.document) (lent (drop l.path-index l.paths)) ≡ filter (leads_to_value l.document) (lent l.paths)
