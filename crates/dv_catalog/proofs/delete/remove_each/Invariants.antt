use Rattle.std.proofs.Common.{drop}
use Rattle.dv_catalog.specs.Changes.{gone}
use Rattle.dv_catalog.proofs.Stopping.{AreMadeSoFar}
use Rattle.dv_catalog.proofs.delete.remove_each.Given as goal

-- what was removed so far
abbrev pub invariant-keys : goal.invariant-keys
invariant-keys l = AreMadeSoFar gone l.fn.collection l.keys l.place (drop l.place l.keys) l.collection
