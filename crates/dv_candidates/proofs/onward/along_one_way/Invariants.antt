use Rattle.std.proofs.Common.{◌≤◌, Some}
use Rattle.dv_value.specs.Inner.Tree.{weight}
use Rattle.dv_value.specs.View.{tree}
use Rattle.dv_candidates.specs.Inner.Onward.{StandsFor}
use Rattle.dv_candidates.specs.Inner.Places.{Reaches}
use Rattle.dv_candidates.proofs.onward.along_one_way.Given as goal

abbrev pub invariant-way : goal.invariant-way
invariant-way l = record {
  stand : StandsFor (Reaches l.components l.fn.places (Some (tree l.value))) l.stand;
  weight : weight (tree l.stand.value.now) ≤ weight (tree l.value);
}

abbrev pub decreases-way : goal.decreases-way
decreases-way l = weight (tree l.stand.value.now)
