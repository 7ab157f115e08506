-- The paths so far, and the longer ones that are left, are the longer ones.
use Rattle.std.proofs.Common.{◌≡◌, ◌++◌, drop}
use Rattle.dv_path.specs.Inner.Apart.{leading_further}
use Rattle.dv_path.proofs.Together.{lent}
use Rattle.dv_path.proofs.removing_each.longer.Given as goal

abbrev pub invariant-paths : goal.invariant-paths
invariant-paths l = lent l.further.items ++ leading_further (lent (drop l.path-index l.paths)) ≡ leading_further (lent l.paths)
