-- The names so far, and those of the paths that are left, are those of all.
use Rattle.std.proofs.Common.{◌≡◌, ◌++◌, map, drop}
use Rattle.dv_path.specs.Inner.Apart.{fields_alone}
use Rattle.dv_path.proofs.Together.{lent}
use Rattle.dv_path.proofs.removing_each.names_alone.Given as goal

abbrev pub invariant-paths : goal.invariant-paths
invariant-paths l = map (λ name. name.now) l.names.items ++ fields_alone (lent (drop l.path-index l.paths)) ≡ fields_alone (lent l.paths)
