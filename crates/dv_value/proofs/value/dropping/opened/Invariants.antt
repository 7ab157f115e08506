use Rattle.std.proofs.Common.{◌+◌, ◌≤◌}
use Rattle.dv_value.specs.Inner.Tree.{weight}
use Rattle.dv_value.specs.View.{tree}
use Rattle.dv_value.proofs.Dropped.{values_weight}
use Rattle.dv_value.proofs.value.dropping.opened.Given as goal

abbrev pub invariant-inside : goal.invariant-inside
invariant-inside l = weight (tree l.value) + values_weight l.left.items ≤ weight (tree l.initial.value) + values_weight l.initial.left.items

abbrev pub decreases-inside : goal.decreases-inside
decreases-inside l = weight (tree l.value)
