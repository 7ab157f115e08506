use Rattle.std.proofs.Common.{◌≡◌, map, drop}
use Rattle.dv_keyed.specs.Choice.{first_place}
use Rattle.dv_keyed.specs.Inner.Index.{IndexTree}
use Rattle.dv_keyed.specs.Inner.View.{has_kind}
use Rattle.dv_keyed.proofs.plan.first_index.Given as goal

abbrev pub invariant-loop-place : goal.invariant-loop-place
invariant-loop-place l =
    first_place (has_kind l.kind) l.filter l.place (map (λ (i : IndexTree). i.path) (drop l.place l.indexes)) ≡ first_place (has_kind l.kind) l.filter 0 (map (λ (i : IndexTree). i.path) l.indexes)
