use Rattle.std.proofs.Common.{◌≡◌, map, drop}
use Rattle.dv_match.specs.Filter.{conditions_of}
use Rattle.dv_match.specs.View.{condition}
use Rattle.dv_keyed.specs.Choice.{first_of}
use Rattle.dv_keyed.specs.Inner.View.{has_kind}
use Rattle.dv_keyed.proofs.plan.first_of_kind.Given as goal

abbrev pub invariant-loop-condition : goal.invariant-loop-condition
invariant-loop-condition l =
    first_of (has_kind l.kind) (conditions_of (map condition (drop l.condition-index l.condition-items))) ≡ first_of (has_kind l.kind) l.conditions
